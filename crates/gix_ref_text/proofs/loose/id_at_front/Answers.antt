use Rattle.std.proofs.Common.{take, cond, None, sym, ap, ◌∙◌, arith}
use Rattle.std.proofs.lemmas.List.{drop_all}
use Rattle.gix_ref_text.specs.Lines.{id_of}
use Rattle.gix_ref_text.specs.Loose.{ends_digits}
use Rattle.gix_ref_text.proofs.Ids.{short}
use Rattle.gix_ref_text.proofs.loose.id_at_front.Goals as goal

pub returns-in_default : goal.returns-in_default
returns-in_default c =
    let few = c.in_default.ensures.cases in
    short c.args.text.now few ∙ ap (λ r. cond (ends_digits r) (id_of (take 40 c.args.text.now)) None) (sym (drop_all 40 c.args.text.now (omega arith)))
