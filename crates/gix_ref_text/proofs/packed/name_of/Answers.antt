use Rattle.std.proofs.Common.{drop, ap, ◌∙◌}
use Rattle.std.proofs.lemmas.List.{drop-drop}
use Rattle.gix_ref_text.proofs.packed.name_of.Goals as goal

pub returns-then-all : goal.returns-then-all
returns-then-all c =
    let digits = c.in_ok-digits.ensures.cases in
    c.in_ok-name.ensures.cases.1 ∙ ap (drop 1) digits.2 ∙ drop-drop 1 40 c.args.line.now
