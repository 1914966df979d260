use Rattle.std.proofs.Common.{◌≡◌, ℕ, List, codes, Bool, refl, ◌∙◌}
use Rattle.std.proofs.lemmas.Bool.Decides.{same_from_decides}
use Rattle.std.proofs.lemmas.Slice.Eq.{bytes_eq-Decides}
use Rattle.std.specs.Bool.{Decides}
use Rattle.std.specs.Str.{str_eq_ignore_ascii_case, str_to_ascii_lowercase}
use Rattle.gix_spec.proofs.spec.parse.delegate.SiblingBranch.parse.Goals as goal

named : (text name : List ℕ) (r : Bool) → Decides r (str_to_ascii_lowercase text ≡ str_to_ascii_lowercase name) → str_eq_ignore_ascii_case text name ≡ r
named text name r test = same_from_decides _ r (bytes_eq-Decides (str_to_ascii_lowercase text) (str_to_ascii_lowercase name)) test

pub returns-then-eq_ignore_ascii_case-3 : goal.returns-then-eq_ignore_ascii_case-3
returns-then-eq_ignore_ascii_case-3 c =
    let text = c.args.text.now in
    rw (
      named text (codes "u") _ c.eq_ignore_ascii_case.ensures.test ∙ c.if-eq_ignore_ascii_case.false,
      named text (codes "upstream") _ c.eq_ignore_ascii_case-else-eq_ignore_ascii_case.ensures.test ∙ c.if-eq_ignore_ascii_case-2.false,
      named text (codes "push") _ c.eq_ignore_ascii_case-2.ensures.test ∙ c.if-eq_ignore_ascii_case-3.true,
    ) refl
