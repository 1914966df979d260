-- The data that a graph of commits has for each id.
use Rattle.std.specs.Prelude.{◌≡◌, ℕ, ◌+◌, Option, Some, None, is_some, if◌then◌else◌}
use Rattle.std.specs.Option.{option_map, unwrap_or}
use Rattle.std.specs.Map.{lookup}
use Rattle.gix_revwalk.specs.History.{History, entry_at, same_id}
use Rattle.gix_revwalk.specs.Graph.{Graphed, held_at, held_len, held_ids}
use Rattle.gix_revwalk.specs.Numbers.{named}
use Rattle.gix_base.specs.declared.hash.ObjectId.{ObjectId}
use Rattle.gix_revwalk.specs.declared.graph.commit.Commit.{Commit}
use Rattle.gix_revwalk.specs.declared.numbers.Mark.{Mark}

-- The data of id q in the graph g; `None` if g does not hold q.
abbrev pub data_at : {S D A : Type 0} → Graphed S (Commit D A) → ObjectId → Option D
data_at g q = option_map (λ c. c.«data») (held_at g q)

-- For every q, graph n has the data that m has. If m does not hold id and the history h has it, n
-- also has the data `new` for id.
abbrev pub TakesIn : {S D A : Type 0}
    → History → Graphed S (Commit D A) → ObjectId → D → Graphed S (Commit D A) → Type 0
TakesIn h m id new n =
    (q : ObjectId) → data_at n q
    ≡ (if is_some (data_at m q) then data_at m q
    else if same_id id q then option_map (λ _. new) (entry_at h id) else None)

-- Graphs m and n hold the same ids, with the same data.
abbrev pub SameData : {S D A : Type 0} → Graphed S (Commit D A) → Graphed S (Commit D A) → Type 0
SameData m n = (q : ObjectId) → data_at n q ≡ data_at m q

-- The number of held ids once id is loaded into graph m: one more if m does not hold id and the
-- history h has it.
abbrev pub len_after : {S T : Type 0} → History → Graphed S T → ObjectId → ℕ
len_after h m id =
    if is_some (held_at m id) then held_len m
    else if is_some (entry_at h id) then held_len m + 1 else held_len m

-- The data d with a count k of queue entries; `None` if either is missing.
abbrev pub mark_with : {D : Type 0} → Option ℕ → Option D → Option (Mark D)
mark_with None d = None
mark_with (Some k) d = option_map (λ x. record { marks = x; queued = k }) d

-- What the current walk of graph g has recorded for q; `None` if it has recorded nothing.
abbrev pub mark_at : {S D A : Type 0} → Graphed S (Commit D A) → ObjectId → Option (Mark D)
mark_at g q = mark_with (unwrap_or (lookup (same_id q) g.marked) None) (data_at g q)

-- Graph n has the source, the ids, the marks and the data of graph m, except that the current walk
-- has recorded w for the id with the number k.
pub record Marks {S D A : Type 0} (m : Graphed S (Commit D A)) (k : ℕ) (w : Mark D) (n : Graphed S (Commit D A)) : Type 0 where
  pub source : n.source ≡ m.source
  pub ids : held_ids n ≡ held_ids m
  pub marks : (id : ObjectId) → named m k ≡ Some id → (q : ObjectId) → mark_at n q ≡ (if same_id id q then Some w else mark_at m q)
  pub payload : (id : ObjectId) → named m k ≡ Some id → (q : ObjectId) → data_at n q ≡ (if same_id id q then Some w.marks else data_at m q)
