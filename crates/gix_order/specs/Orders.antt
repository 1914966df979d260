-- Git's two orders of a list of commits (git-rev-list, "Commit Ordering"): "Show no parents before
-- all of its children are shown". A commit all of whose children were shown is free. Of the free
-- commits, `--date-order` shows the newest. `--topo-order` shows the one that became free last, so
-- that lines of history stay together. A commit that a graft makes its own ancestor is never free.
use Rattle.std.specs.Prelude.{◌≡◌, ℕ, zero, suc, ◌-◌, ◌<◌, ◌≤◌, ◌⊎◌, Bool, false, ◌||◌, ◌==◌, if◌then◌else◌, IsTrue, ℤ, pos, ◌<ℤ◌, List, [], ◌∷◌, ◌++◌, length, take, drop, reverse, flat_map, slice_index, slice_index_or}
use Rattle.std.specs.List.{range_with_len}
use Rattle.gix_order.specs.declared.commits.Commits.{Commits}
use Rattle.gix_order.specs.declared.commits.Order.{Order}
use Rattle.gix_order.specs.declared.commits.Order.TheVariants.{Dated, Topological}

-- A list of commits, which are named by their places in it: the number of commits, and the date and
-- the parents of each. A parent whose place is past the end is no commit of the list.
pub record Listed : Type 0 where
  pub count : ℕ
  pub time : ℕ → ℤ
  pub parents : ℕ → List ℕ

-- The end of the parents of all commits before a place.
abbrev pub end_before : List ℕ → ℕ → ℕ
end_before ends zero = 0
end_before ends (suc k) = slice_index ends k

-- The list that `Commits` has. The parents of a commit are those from the end of the commit before
-- it to its own end, if they are there. A commit without a date has the date 0.
abbrev pub listed : Commits → Listed
listed c = record {
  count = length c.ends.items;
  time = λ k. slice_index_or c.times.items k (pos 0);
  parents = λ k. take (slice_index c.ends.items k - end_before c.ends.items k) (drop (end_before c.ends.items k) c.parents.items);
}

-- Whether c is one of xs.
abbrev pub has : List ℕ → ℕ → Bool
has [] c = false
has (x ∷ xs) c = (x == c) || has xs c

-- Commit c is a child of p: it is in the list, and p is one of its parents.
abbrev pub IsChild : Listed → ℕ → ℕ → Type 0
IsChild l c p = (c < l.count) × IsTrue (has (l.parents c) p)

-- Commit p is free once some commits were shown: it is in the list, and each child of it was shown.
abbrev pub IsFree : Listed → List ℕ → ℕ → Type 0
IsFree l shown p = (p < l.count) × ((c : ℕ) → IsChild l c p → IsTrue (has shown c))

-- Commit p waits: it is free, and was not shown itself.
abbrev pub Waits : Listed → List ℕ → ℕ → Type 0
Waits l shown p = IsFree l shown p × (¬ IsTrue (has shown p))

-- All commits of a list of n, by date from its first one on, and otherwise from its last one on.
abbrev pub places : Order → ℕ → List ℕ
places Dated n = range_with_len 0 n
places Topological n = reverse (range_with_len 0 n)

-- The commits that are met until some were shown, in that order: first all of the list, and then
-- the parents of each commit that was shown, in the order in which it has them.
abbrev pub met : Order → Listed → List ℕ → List ℕ
met order l shown = places order l.count ++ flat_map l.parents shown

-- The place of the last c of a list. A commit becomes free where it is met last: as a commit of the
-- list if it has no child there, and otherwise as a parent of the last child that is shown.
abbrev pub last_place : List ℕ → ℕ → ℕ
last_place [] c = 0
last_place (x ∷ xs) c = if has xs c then suc (last_place xs c) else 0

-- Commit c comes no later than d, if both wait. By date, c is newer, or they have the same date and
-- c became free no later than d. In topological order, c became free no earlier than d.
abbrev pub IsNoLater : Order → Listed → List ℕ → ℕ → ℕ → Type 0
IsNoLater Dated l ms c d = (l.time d <ℤ l.time c) ⊎ ((l.time d ≡ l.time c) × (last_place ms c ≤ last_place ms d))
IsNoLater Topological l ms c d = last_place ms d ≤ last_place ms c

-- Commit c comes next after some were shown: it waits, and comes no later than any that waits.
abbrev pub ComesNext : Order → Listed → List ℕ → ℕ → Type 0
ComesNext order l shown c = Waits l shown c × ((d : ℕ) → Waits l shown d → IsNoLater order l (met order l shown) c d)

-- The list zs continues xs: each time with the commit that comes next, until no commit waits.
pub data GoesOn (order : Order) (l : Listed) : List ℕ → List ℕ → Type 0 where
  ended : (xs : List ℕ) → ((c : ℕ) → ¬ Waits l xs c) → GoesOn order l xs xs
  next : (xs zs : List ℕ) (c : ℕ) → ComesNext order l xs c → GoesOn order l (xs ++ c ∷ []) zs → GoesOn order l xs zs

-- The list zs has the commits of a list in an order, from the first one on.
abbrev pub IsInOrder : Order → Listed → List ℕ → Type 0
IsInOrder order l zs = GoesOn order l [] zs
