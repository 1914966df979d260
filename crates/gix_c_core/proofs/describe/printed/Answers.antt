use Rattle.std.proofs.Common.{◌≡◌, ◌∙◌, refl, subst, List, ◌++◌, ℕ}
use Rattle.gix_describe.specs.FormatText.{format_bytes}
use Rattle.gix_c_core.specs.Descriptions.{IsText}
use Rattle.gix_c_core.proofs.describe.printed.Goals as goal

pub returns-clause-printed : goal.returns-clause-printed
returns-clause-printed c =
    let bytes = subst (λ (xs : List ℕ). c.write_to.new.output.items ≡ xs ++ format_bytes c.format_of-format.result) c.new-text.ensures.items c.in-Ok.ensures in
    let text = c.deref.ensures.value ∙ bytes ∙ c.format_of-format.ensures in
    record {
      text = subst (λ (t : List ℕ). IsText t c.args.out.now c.write_text.new.out c.write_text.new.len) text c.write_text.ensures;
      depth_is = refl;
    }
