-- The front of a walk, which has the commits that wait.
use Rattle.std.specs.Prelude.{◌≡◌, ◌≤◌, ◌⊎◌, ◌<ℤ◌, List, AllPairs}
use Rattle.std.specs.Ordering.{nat_cmp, int_cmp, ordering_then}
use Rattle.std.specs.declared.cmp.Ordering.{Ordering}
use Rattle.std.specs.BinaryHeap.{heap_items, IsHeap}
use Rattle.gix_order.specs.declared.commits.Order.{Order}
use Rattle.gix_order.specs.declared.commits.Order.TheVariants.{Dated, Topological}
use Rattle.gix_order.specs.declared.front.Free.{Free}
use Rattle.gix_order.specs.declared.front.Front.{Front}
use Rattle.gix_order.specs.declared.front.Front.TheVariants.{Heap, Stack}

-- The entries of a front, in no particular order.
abbrev pub entries : Front → List Free
entries (Heap h) = heap_items h
entries (Stack v) = v.items

-- The order that a front keeps.
abbrev pub order_of : Front → Order
order_of (Heap h) = Dated
order_of (Stack v) = Topological

-- The order of a heap: by the date, then the one that became free earlier, then by the place.
abbrev pub free_cmp : Free → Free → Ordering
free_cmp x y = ordering_then (int_cmp x.time y.time) (ordering_then (nat_cmp y.since.0 x.since.0) (nat_cmp x.place y.place))

-- An entry of a stack became free no later than those above it.
abbrev pub IsRising : List Free → Type 0
IsRising es = AllPairs (λ a b. a.since.0 ≤ b.since.0) es

-- A front is sound: a heap is in order, and a stack rises.
abbrev pub IsSound : Front → Type 0
IsSound (Heap h) = IsHeap free_cmp (heap_items h)
IsSound (Stack v) = IsRising v.items

-- Entry x leaves the front no later than y. By date, it is newer, or has the same date and became
-- free no later. In topological order, it became free no earlier.
abbrev pub IsAhead : Order → Free → Free → Type 0
IsAhead Dated x y = (y.time <ℤ x.time) ⊎ ((y.time ≡ x.time) × (x.since.0 ≤ y.since.0))
IsAhead Topological x y = y.since.0 ≤ x.since.0
