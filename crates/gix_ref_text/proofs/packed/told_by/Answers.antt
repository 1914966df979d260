use Rattle.std.proofs.Common.{take, cond, None, sym, ap, arith}
use Rattle.std.proofs.lemmas.List.{drop_all}
use Rattle.gix_ref_text.specs.Lines.{id_of}
use Rattle.gix_ref_text.specs.Packed.{is_named}
use Rattle.gix_ref_text.proofs.packed.told_by.Goals as goal

pub returns-in_default : goal.returns-in_default
returns-in_default c =
    let few = c.in_default.ensures.cases in
    ap (λ r. cond (is_named r c.args.name.now) (id_of (take 40 c.args.line.now)) None) (sym (drop_all 40 c.args.line.now (omega arith)))
