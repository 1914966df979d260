-- The orders of specs, kinds and arguments: by variant in the order of declaration, then by the
-- values in the variant.
use Rattle.std.specs.Prelude.{ℕ, List, []}
use Rattle.std.specs.declared.cmp.Ordering.{Ordering}
use Rattle.std.specs.declared.cmp.Ordering.TheVariants.{Less, Equal, Greater}
use Rattle.std.specs.Ordering.{nat_cmp, ordering_then}
use Rattle.std.specs.Cmp.Lexicographic.{slice_cmp}
use Rattle.gix_spec.specs.declared.spec.Kind.{Kind}
use Rattle.gix_spec.specs.declared.spec.Kind.TheVariants as kinds
use Rattle.gix_spec.specs.declared.spec.Spec.{Spec}
use Rattle.gix_spec.specs.declared.spec.Spec.TheVariants.{Include, Exclude, Range, Merge, IncludeOnlyParents, ExcludeParents}
use Rattle.gix_spec.specs.declared.spec.parse.delegate.Traversal.{Traversal}
use Rattle.gix_spec.specs.declared.spec.parse.delegate.Traversal.TheVariants.{NthParent, NthAncestor}
use Rattle.gix_base.specs.Kind.{kind_order as object_order}
use Rattle.gix_base.specs.Time.{time_order}
use Rattle.gix_spec.specs.declared.spec.parse.delegate.PrefixHint.{PrefixHint}
use Rattle.gix_spec.specs.declared.spec.parse.delegate.PrefixHint.TheVariants.{MustBeCommit, DescribeAnchor}
use Rattle.gix_spec.specs.declared.spec.parse.delegate.ReflogLookup.{ReflogLookup}
use Rattle.gix_spec.specs.declared.spec.parse.delegate.ReflogLookup.TheVariants.{Entry, Date}
use Rattle.gix_spec.specs.declared.spec.parse.delegate.PeelTo.{PeelTo}
use Rattle.gix_spec.specs.declared.spec.parse.delegate.PeelTo.TheVariants.{ObjectKind, ValidObject, RecursiveTagObject, Path}
use Rattle.gix_spec.specs.declared.spec.parse.delegate.SiblingBranch.{SiblingBranch}
use Rattle.gix_spec.specs.declared.spec.parse.delegate.SiblingBranch.TheVariants.{Upstream, Push}
use Rattle.gix_spec.specs.Printed.{kind_of}

-- The place of a kind of specs among the six, as they are declared.
abbrev pub place_of : Kind → ℕ
place_of kinds.IncludeReachable = 0
place_of kinds.ExcludeReachable = 1
place_of kinds.RangeBetween = 2
place_of kinds.ReachableToMergeBase = 3
place_of kinds.IncludeReachableFromParents = 4
place_of kinds.ExcludeReachableFromParents = 5

-- The order of kinds of specs, as they are declared.
abbrev pub kind_order : Kind → Kind → Ordering
kind_order a b = nat_cmp (place_of a) (place_of b)

-- The bytes of the first id of a spec.
abbrev pub first_bytes : Spec → List ℕ
first_bytes (Include a) = a.0
first_bytes (Exclude a) = a.0
first_bytes (Range a b) = a.0
first_bytes (Merge a b) = a.0
first_bytes (IncludeOnlyParents a) = a.0
first_bytes (ExcludeParents a) = a.0

-- The bytes of the second id of a spec. There are none if the spec has one id.
abbrev pub second_bytes : Spec → List ℕ
second_bytes (Range a b) = b.0
second_bytes (Merge a b) = b.0
second_bytes _ = []

-- The order of specs: by kind, then by the bytes of the first id, then by those of the second.
abbrev pub spec_order : Spec → Spec → Ordering
spec_order a b =
    ordering_then (kind_order (kind_of a) (kind_of b))
    (ordering_then (slice_cmp nat_cmp (first_bytes a) (first_bytes b)) (slice_cmp nat_cmp (second_bytes a) (second_bytes b)))

-- The place of a step among the two: to a parent, then to an ancestor.
abbrev pub step_place : Traversal → ℕ
step_place (NthParent n) = 0
step_place (NthAncestor n) = 1

-- The number of a step.
abbrev pub step_number : Traversal → ℕ
step_number (NthParent n) = n
step_number (NthAncestor n) = n

-- The order of steps: by variant, to a parent first, then by number.
abbrev pub step_order : Traversal → Traversal → Ordering
step_order a b = ordering_then (nat_cmp (step_place a) (step_place b)) (nat_cmp (step_number a) (step_number b))

-- The place of a sibling branch among the two: upstream, then push.
abbrev pub sibling_place : SiblingBranch → ℕ
sibling_place Upstream = 0
sibling_place Push = 1

-- The order of sibling branches: upstream first.
abbrev pub sibling_order : SiblingBranch → SiblingBranch → Ordering
sibling_order a b = nat_cmp (sibling_place a) (sibling_place b)

-- The order of hints: MustBeCommit before anchors. Anchors are ordered by the bytes of their names,
-- then by generation.
abbrev pub hint_order : PrefixHint → PrefixHint → Ordering
hint_order MustBeCommit MustBeCommit = Equal
hint_order MustBeCommit (DescribeAnchor name generation) = Less
hint_order (DescribeAnchor name generation) MustBeCommit = Greater
hint_order (DescribeAnchor a m) (DescribeAnchor b n) = ordering_then (slice_cmp nat_cmp a.now b.now) (nat_cmp m n)

-- The order of look-ups in a reflog: entries before dates. Entries are ordered by number, and dates
-- by time.
abbrev pub lookup_order : ReflogLookup → ReflogLookup → Ordering
lookup_order (Entry m) (Entry n) = nat_cmp m n
lookup_order (Entry m) (Date t) = Less
lookup_order (Date s) (Entry n) = Greater
lookup_order (Date s) (Date t) = time_order s t

-- The place of a target among the four, as they are declared.
abbrev pub target_place : PeelTo → ℕ
target_place (ObjectKind k) = 0
target_place ValidObject = 1
target_place RecursiveTagObject = 2
target_place (Path p) = 3

-- The order of targets: by variant, object kinds then by kind, and paths by their bytes.
abbrev pub target_order : PeelTo → PeelTo → Ordering
target_order (ObjectKind j) (ObjectKind k) = object_order j k
target_order (Path p) (Path q) = slice_cmp nat_cmp p.now q.now
target_order a b = nat_cmp (target_place a) (target_place b)
