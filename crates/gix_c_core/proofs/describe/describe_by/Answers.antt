use Rattle.std.proofs.Common.{ap, refl, subst, Some, None, w32, FitsSigned, rules}
use Rattle.std.proofs.lemmas.Int.{to_z-of_z}
use Rattle.std.specs.Option.{option_map}
use Rattle.gix_base.specs.declared.hash.ObjectId.{ObjectId}
use Rattle.gix_describe.specs.Lent.{description_by, outcomes_by}
use Rattle.gix_describe.specs.Outcomes.{description_of}
use Rattle.gix_c_core.specs.Answers.{id_of}
use Rattle.gix_c_core.specs.Descriptions.{IsPrinted, TellsWalk}
use Rattle.gix_c_core.specs.Partial.{whole_in}
use Rattle.gix_c_core.proofs.Named.{described-so, walk-so}
use Rattle.gix_c_core.proofs.describe.describe_by.Goals as goal

pub returns-in-Ok-clause-described : goal.returns-in-Ok-clause-described
returns-in-Ok-clause-described g c = λ given are.
    let n = c.in-Ok-Some.nearest in
    let map = c.args.names.now in
    let id = rw c.in-Ok-Some.field-0-is at c.in-Ok-Some.ensures.kept in
    record {
      description = description_by n;
      described = described-so _ (whole_in c.args.history.now g.K.Beyond.beyond) (id_of c.args.commit.now) given c.args.how.now map c.manner_of.result _ (Some (description_by n)) refl are c.manner_of.ensures
          (ap (λ r. option_map description_of (outcomes_by map r)) c.in-Ok-Some.field-0-is) c.in-Ok-Some.ensures.described;
      printed = subst (λ (i : ObjectId). IsPrinted i (description_by n) c.args.how.now c.args.out.now c.printed.new.out c.printed.new.len c.printed.new.depth) id c.in-Ok.ensures.printed;
    }

pub returns-in-Ok-None-clause-described : goal.returns-in-Ok-None-clause-described
returns-in-Ok-None-clause-described g c = λ given are.
    let map = c.args.names.now in
    described-so _ (whole_in c.args.history.now g.K.Beyond.beyond) (id_of c.args.commit.now) given c.args.how.now map c.manner_of.result _ None refl are c.manner_of.ensures
    (ap (λ r. option_map description_of (outcomes_by map r)) c.in-Ok-None.field-0-is) c.in-Ok-None.ensures.described

pub returns-in-Err-clause-walk : goal.returns-in-Err-clause-walk
unfolding TellsWalk
returns-in-Err-clause-walk g c = λ given are codes.
    let fits : FitsSigned w32 c.in-Err.code = search rules in
    walk-so (id_of c.args.commit.now) given c.args.how.now c.args.names.now c.manner_of.result are c.manner_of.ensures
    (c.in-Err.ensures.walk (rw (to_z-of_z w32 c.in-Err.code fits) at codes))
