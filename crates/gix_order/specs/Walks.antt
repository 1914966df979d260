-- The state of a walk that shows commits.
use Rattle.std.specs.Prelude.{◌≡◌, ℕ, ◌+◌, ◌-◌, ◌<◌, ◌≤◌, ◌==◌, ◌&&◌, not, cond, IsTrue, List, [], ◌∷◌, ◌++◌, length, slice_index, slice_index_or}
use Rattle.std.specs.List.{AllByRecursion}
use Rattle.gix_order.specs.declared.commits.Order.{Order}
use Rattle.gix_order.specs.declared.front.Free.{Free}
use Rattle.gix_order.specs.declared.walk.Walk.{Walk}
use Rattle.gix_order.specs.Orders.{Listed, has, met, last_place, GoesOn, IsInOrder}
use Rattle.gix_order.specs.Counts.{times_in, open_links, sum_over}
use Rattle.gix_order.specs.Fronts.{entries, order_of, IsSound}

-- How often commit p is still to be met; 1 if its place is past the end of the list.
abbrev pub need : Walk → ℕ → ℕ
need w p = slice_index_or w.left.items p 1

-- Once the commits ms were met, an entry has the date of its commit and the place where that became
-- free.
pub record IsRight (l : Listed) (ms : List ℕ) (e : Free) : Type 0 where
  pub since : e.since.0 ≡ last_place ms e.place
  pub time : e.time ≡ l.time e.place

-- How many entries commit p has.
abbrev pub entries_of : List Free → ℕ → ℕ
entries_of [] p = 0
entries_of (e ∷ es) p = cond (e.place == p) 1 0 + entries_of es p

-- The entries are right, and there is one for each commit that is no more to be met and was not
-- shown. A commit that was shown is no more to be met.
pub record AreWaiting (l : Listed) (needs : ℕ → ℕ) (shown ms : List ℕ) (es : List Free) : Type 0 where
  pub right : AllByRecursion (IsRight l ms) es
  pub once : (p : ℕ) → entries_of es p ≡ cond ((needs p == 0) && not (has shown p)) 1 0
  pub done : (p : ℕ) → IsTrue (has shown p) → needs p ≡ 0

-- A walk in an order has met the commits ms: it has their number, and its front those that wait.
pub record HasMet (order : Order) (l : Listed) (ms : List ℕ) (w : Walk) : Type 0 where
  pub waiting : AreWaiting l (need w) w.shown.items ms (entries w.front)
  pub number : w.met ≡ length ms
  pub sound : IsSound w.front
  pub kept : order_of w.front ≡ order

-- Each commit of the list is still to be met at least as often as it is in xs.
abbrev pub CanMeet : Walk → List ℕ → Type 0
CanMeet w xs = (p : ℕ) → p < length w.left.items → times_in xs p ≤ slice_index w.left.items p

-- The walk v is w after it has met the commits xs.
pub record Meets (l : Listed) (xs : List ℕ) (w v : Walk) : Type 0 where
  pub met : (order : Order) (ms : List ℕ) → HasMet order l ms w → CanMeet w xs → HasMet order l (ms ++ xs) v
  pub left : (p : ℕ) → p < length w.left.items → slice_index v.left.items p ≡ slice_index w.left.items p - times_in xs p
  pub len : length v.left.items ≡ length w.left.items
  pub same : v.shown.items ≡ w.shown.items

-- A walk stands between two commits: it has met the list and the parents of all that were shown.
-- Each commit is still to be met once for each open link to it. What goes on from here is in order.
pub record IsBetween (order : Order) (l : Listed) (w : Walk) : Type 0 where
  pub now : HasMet order l (met order l w.shown.items) w
  pub len : length w.left.items ≡ l.count
  pub links : (p : ℕ) → p < l.count → slice_index w.left.items p ≡ open_links l w.shown.items p
  pub goes : (zs : List ℕ) → GoesOn order l w.shown.items zs → IsInOrder order l zs

-- The number of commits that were not shown.
abbrev pub unshown : Listed → Walk → ℕ
unshown l w = sum_over l.count w.shown.items (λ c. 1)

-- The walk v stands between two commits, and more were shown there than in w.
pub record ShowsNext (order : Order) (l : Listed) (w v : Walk) : Type 0 where
  pub stands : IsBetween order l v
  pub nearer : unshown l v < unshown l w

-- The walks w and v have shown the same commits, and these are all in order.
pub record ShowsNone (order : Order) (l : Listed) (w v : Walk) : Type 0 where
  pub same : v.shown.items ≡ w.shown.items
  pub ends : IsInOrder order l w.shown.items
