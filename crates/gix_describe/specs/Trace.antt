-- The state of a walk, as determined by the commits that were popped.
use Rattle.std.specs.Prelude.{◌≡◌, ◌⊎◌, ◌||◌, ◌&&◌, not, Bool, cond, List, [], ◌∷◌, ◌++◌, is_some, IsTrue}
use Rattle.std.specs.List.{list_any}
use Rattle.gix_base.specs.declared.hash.ObjectId.{ObjectId}
use Rattle.gix_revwalk.specs.History.{History, entry_at, same_id, is_one_of, parents_in}
use Rattle.gix_describe.specs.Described.{Names, name_at}
use Rattle.gix_describe.specs.Order.{Ranking, IsBefore, tie_rank}

-- Whether an edge leads from a to b.
abbrev pub is_edge : History → ObjectId → ObjectId → Bool
is_edge h a b = is_one_of (parents_in (entry_at h a)) b && is_some (entry_at h b)

-- Whether c is the start s, or a parent of a popped commit that the history has.
abbrev pub is_met : History → ObjectId → List ObjectId → ObjectId → Bool
is_met h s popped c = same_id s c || list_any (λ p. is_edge h p c) popped

-- Whether c is met and not popped.
abbrev pub is_open : History → ObjectId → List ObjectId → ObjectId → Bool
is_open h s popped c = is_met h s popped c && not (is_one_of popped c)

-- Whether c has the mark m after x is popped. A commit that has the mark hands it to its parents.
abbrev pub marked_after : History → (ObjectId → Bool) → ObjectId → ObjectId → Bool
marked_after h m x c = m c || (m x && is_edge h x c)

-- Whether c has the mark m after several commits are popped.
abbrev pub marked_by : History → (ObjectId → Bool) → List ObjectId → ObjectId → Bool
marked_by h m [] c = m c
marked_by h m (x ∷ xs) c = marked_by h (marked_after h m x) xs c

-- The popped commits that did not have the mark m when they were popped.
abbrev pub late_by : History → (ObjectId → Bool) → List ObjectId → List ObjectId
late_by h m [] = []
late_by h m (x ∷ xs) = cond (m x) (late_by h (marked_after h m x) xs) (x ∷ late_by h (marked_after h m x) xs)

-- Whether c has the mark of t. Commit t has it from the start.
abbrev pub has_mark : History → ObjectId → List ObjectId → ObjectId → Bool
has_mark h t popped c = marked_by h (same_id t) popped c

-- The commits that were popped without the mark of t: before t, or on no path from t.
abbrev pub late_of : History → ObjectId → List ObjectId → List ObjectId
late_of h t popped = late_by h (same_id t) popped

-- Whether commit c has a name.
abbrev pub is_named : Names → ObjectId → Bool
is_named names c = is_some (name_at names c)

-- Commit x is open, and comes first of the open commits.
abbrev pub IsNext : Ranking → History → ObjectId → List ObjectId → ObjectId → Type 0
IsNext ranks h s popped x =
    IsTrue (is_open h s popped x) × ((d : ObjectId) → IsTrue (is_open h s popped d) → (d ≡ x) ⊎ IsBefore (tie_rank ranks h s popped) h x d)

-- Each popped commit came first of the commits that were open before it.
pub data IsWalk (ranks : Ranking) (h : History) (s : ObjectId) : List ObjectId → Type 0 where
  begins : IsWalk ranks h s []
  goes : (xs ys : List ObjectId) (x : ObjectId) → ys ≡ xs ++ x ∷ [] → IsWalk ranks h s xs → IsNext ranks h s xs x → IsWalk ranks h s ys
