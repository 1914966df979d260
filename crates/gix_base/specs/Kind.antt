-- The order of object kinds.
use Rattle.std.specs.Prelude.{ℕ}
use Rattle.std.specs.declared.cmp.Ordering.{Ordering}
use Rattle.std.specs.Ordering.{nat_cmp}
use Rattle.gix_base.specs.declared.object.Kind.{Kind}
use Rattle.gix_base.specs.declared.object.Kind.TheVariants.{Tree, Blob, Commit, Tag}

-- The place of a kind among the four.
abbrev pub place_of : Kind → ℕ
place_of Tree = 0
place_of Blob = 1
place_of Commit = 2
place_of Tag = 3

-- The order of kinds: trees, blobs, commits, tags.
abbrev pub kind_order : Kind → Kind → Ordering
kind_order a b = nat_cmp (place_of a) (place_of b)
