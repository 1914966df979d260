-- The items of a list that is never empty, and of a walk over one.
use Rattle.std.specs.Prelude.{List, ◌∷◌, Option, Some, None}
use Rattle.std.specs.Slice.Iter.{iter_rest}
use Rattle.std.specs.Borrow.{Bor}
use Rattle.gix_base.specs.declared.error.NonEmpty.{NonEmpty}
use Rattle.gix_base.specs.declared.error.NonEmptyIter.{NonEmptyIter}

-- The items of a list: its head, then its tail.
abbrev pub all_of : {T A : Type 0} → NonEmpty T A → List T
all_of l = l.head ∷ l.tail.items

-- The items after the value of a reference, if there is a reference, and the rest.
abbrev pub in_front : {T : Type 0} → Option (Bor T) → List T → List T
in_front None xs = xs
in_front (Some x) xs = x.now ∷ xs

-- The items that an iterator has still to give.
abbrev pub left_of : {T : Type 0} → NonEmptyIter T → List T
left_of it = in_front it.head (iter_rest it.tail)
