-- Printed specs (gitrevisions, "Specifying Ranges").
use Rattle.std.specs.Prelude.{ℕ, List, ◌++◌, codes}
use Rattle.gix_base.specs.Hash.{id_text}
use Rattle.gix_spec.specs.declared.spec.Kind.{Kind}
use Rattle.gix_spec.specs.declared.spec.Kind.TheVariants as kinds
use Rattle.gix_spec.specs.declared.spec.Spec.{Spec}
use Rattle.gix_spec.specs.declared.spec.Spec.TheVariants.{Include, Exclude, Range, Merge, IncludeOnlyParents, ExcludeParents}

-- The form of a spec.
abbrev pub kind_of : Spec → Kind
kind_of (Include a) = kinds.IncludeReachable
kind_of (Exclude a) = kinds.ExcludeReachable
kind_of (Range a b) = kinds.RangeBetween
kind_of (Merge a b) = kinds.ReachableToMergeBase
kind_of (IncludeOnlyParents a) = kinds.IncludeReachableFromParents
kind_of (ExcludeParents a) = kinds.ExcludeReachableFromParents

-- The spec as a revision expression, with all 40 digits of each id.
abbrev pub spec_text : Spec → List ℕ
spec_text (Include a) = id_text a
spec_text (Exclude a) = codes "^" ++ id_text a
spec_text (Range a b) = id_text a ++ codes ".." ++ id_text b
spec_text (Merge a b) = id_text a ++ codes "..." ++ id_text b
spec_text (IncludeOnlyParents a) = id_text a ++ codes "^@"
spec_text (ExcludeParents a) = id_text a ++ codes "^!"
