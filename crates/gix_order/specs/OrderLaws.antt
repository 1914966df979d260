-- Laws of the orders of a list of commits.
use Rattle.std.specs.Prelude.{◌≡◌, ◌≢◌, ◌⊎◌, ◌↔◌, ℕ, ◌<◌, IsTrue, List, length, take, slice_index, All, AllPairs}
use Rattle.gix_order.specs.declared.commits.Order.{Order}
use Rattle.gix_order.specs.Orders.{Listed, has, IsChild, IsInOrder}

-- A list in an order has places of commits, and none twice.
abbrev pub NoneTwice : Type 0
NoneTwice = (order : Order) (l : Listed) (zs : List ℕ) → IsInOrder order l zs → All (λ c. c < l.count) zs × AllPairs (λ c d. c ≢ d) zs

-- In a list in an order, each child of a commit stands before it.
abbrev pub ChildrenFirst : Type 0
ChildrenFirst = (order : Order) (l : Listed) (zs : List ℕ) (k c : ℕ) → IsInOrder order l zs → k < length zs → IsChild l c (slice_index zs k) → IsTrue (has (take k zs) c)

-- Commit c leads to p: p is a parent of c, or a parent of c in the list leads to p.
pub data LeadsTo (l : Listed) : ℕ → ℕ → Type 0 where
  parent : (c p : ℕ) → IsChild l c p → LeadsTo l c p
  onward : (c d p : ℕ) → IsChild l c d → LeadsTo l d p → LeadsTo l c p

-- Commit p is on no circle and behind none: neither p nor a commit that leads to p leads to itself.
abbrev pub IsBehindNoCircle : Listed → ℕ → Type 0
IsBehindNoCircle l p = (q : ℕ) → (q ≡ p) ⊎ LeadsTo l q p → ¬ LeadsTo l q q

-- A list in an order has exactly those commits of the list that are on no circle and behind none.
abbrev pub NoneLost : Type 0
NoneLost = (order : Order) (l : Listed) (zs : List ℕ) (p : ℕ) → IsInOrder order l zs → p < l.count → (IsTrue (has zs p) ↔ IsBehindNoCircle l p)

-- Two lists in an order of the same commits are equal.
abbrev pub OrderIsUnique : Type 0
OrderIsUnique = (order : Order) (l : Listed) (zs ws : List ℕ) → IsInOrder order l zs → IsInOrder order l ws → zs ≡ ws
