-- The names of sibling branches (gitrevisions, "@{upstream}" and "@{push}").
use Rattle.std.specs.Prelude.{ℕ, List, codes, Option, Some, None, ◌||◌, if◌then◌else◌}
use Rattle.std.specs.Str.{str_eq_ignore_ascii_case}
use Rattle.gix_spec.specs.declared.spec.parse.delegate.SiblingBranch.{SiblingBranch}
use Rattle.gix_spec.specs.declared.spec.parse.delegate.SiblingBranch.TheVariants.{Upstream, Push}

-- The sibling branch that text names. ASCII letters may be in upper or lower case.
abbrev pub sibling_of : List ℕ → Option SiblingBranch
sibling_of text =
    if str_eq_ignore_ascii_case text (codes "u") || str_eq_ignore_ascii_case text (codes "upstream") then Some Upstream
    else if str_eq_ignore_ascii_case text (codes "push") then Some Push
    else None
