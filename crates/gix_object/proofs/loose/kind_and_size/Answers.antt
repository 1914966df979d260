use Rattle.std.proofs.Common.{◌∷◌, ◌++◌, sym, ap, ◌∙◌}
use Rattle.gix_object.specs.Lines.{after}
use Rattle.gix_object.specs.ObjectForm.{kind_name}
use Rattle.gix_object.proofs.Headers.{parts, no-space, other-name, other-digits}
use Rattle.gix_object.proofs.loose.kind_and_size.Goals as goal

pub returns-in_default : goal.returns-in_default
returns-in_default c = λ kind n small. no-space c.args.text.now c.in_default.ensures kind n

pub returns-in_default-kind_of_name : goal.returns-in_default-kind_of_name
returns-in_default-kind_of_name c =
    λ kind n small. other-name c.args.text.now (λ k is. c.in_default-kind_of_name.ensures k (is ∙ sym c.in-Some.ensures.1)) kind n

pub returns-in-Some-size : goal.returns-in-Some-size
returns-in-Some-size c = (
  c.in-Some-size.ensures.0,
  parts 32 c.args.text.now c.in-Some.ensures.0
      ∙ ap (λ name. name ++ (32 ∷ after 32 c.args.text.now)) (sym c.in-Some.ensures.1 ∙ sym c.in-Some-kind_of_name.ensures)
      ∙ ap (λ digits. kind_name c.in-Some-kind_of_name.kind ++ (32 ∷ digits)) (sym c.after.ensures ∙ c.in-Some-size.ensures.1),
)

pub returns-in-None : goal.returns-in-None
returns-in-None c = λ kind n small. other-digits c.args.text.now n (λ is. c.in-None.ensures n small (c.after.ensures ∙ is)) kind
