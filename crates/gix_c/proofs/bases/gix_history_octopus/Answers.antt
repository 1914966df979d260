use Rattle.std.proofs.Common.{List, map, Option, subst}
use Rattle.gix_base.specs.declared.hash.ObjectId.{ObjectId}
use Rattle.gix_questions.specs.BaseQuestions.{MeansOctopus}
use Rattle.gix_merge_base.specs.Octopus.{IsOctopusBase}
use Rattle.gix_c_core.specs.Answers.{id_of}
use Rattle.gix_c_core.specs.Partial.{whole_in, whole_of}
use Rattle.gix_c_core.specs.declared.history.History.{History}
use Rattle.gix_c.proofs.bases.gix_history_octopus.Goals as goal

pub returns-in-Some-clause-base : goal.returns-in-Some-clause-base
returns-in-Some-clause-base g c = λ acyclic gens.
    let h = whole_of c.args.history.now g.beyond in
    let f = id_of c.args.first.now in
    let Holds = λ (v : History) (os : List ObjectId). MeansOctopus (whole_in v g.beyond) f os c.in-Ok-answer.found in
    let here = subst (λ (v : History). Holds v c.deref.result.now) c.get_mut.ensures.value c.in-Ok-answer.ensures.means in
    let ids = subst (λ (os : List ObjectId). Holds c.args.history.now.value os) c.deref.ensures.value here in
    let means = subst (λ (os : List ObjectId). Holds c.args.history.now.value os) c.in-Ok.ensures ids in
    record {
      id = c.in-Some.id;
      base = subst (λ (r : Option ObjectId). IsOctopusBase h f (map id_of c.args.others.now) r) c.in-Some.is (means.base acyclic gens);
      written = c.bytes_of.ensures;
    }
