-- A walk from two sides loads only what the sides reach.
use Rattle.std.proofs.Common.{◌≡◌, ℕ, sym, subst, ◌∙◌, List, [], ◌∷◌, ◌++◌, ◌<◌, get_or, length, IsTrue}
use Rattle.std.specs.List.Sorted.{IsPermutation}
use Rattle.std.proofs.lemmas.List.Sorted.{list_any-IsPermutation}
use Rattle.gix_base.specs.declared.hash.ObjectId.{ObjectId}
use Rattle.gix_revwalk.specs.History.{History, Has, entry_at, parents_in, is_one_of, same_id, IsAncestorOfOne}
use Rattle.gix_revwalk.specs.History.IsAncestor.{itself, further}
use Rattle.gix_revwalk.specs.Graph.{Graphed, held_ids}
use Rattle.gix_revwalk.specs.Walks.{HoldsMore}
use Rattle.gix_revwalk.proofs.Members.{one_of-at, one_of-single, one_of-left, one_of-right, one_of-head}
use Rattle.gix_resolve.specs.Taken.{TakesOnly}
use Rattle.gix_resolve.proofs.ListTaken.{only_same, only_held, only_then, only_wider}

module _ {S T : Type 0} (h : History) where
  -- the next of some starts
  pub more_starts : (ids : List ObjectId) (i : ℕ) (d : ObjectId) (m g n : Graphed S T) → i < length ids → HoldsMore h ids m g → HoldsMore h (get_or ids i d ∷ []) g n → HoldsMore h ids m n
  more_starts ids i d m g n below taken more =
      only_then (λ q. IsTrue (is_one_of ids q) × Has h q) m g n taken
      (only_wider (λ q. IsTrue (is_one_of (get_or ids i d ∷ []) q) × Has h q) (λ q. IsTrue (is_one_of ids q) × Has h q) g n
      (λ q k. (subst (λ z. IsTrue (is_one_of ids z)) (sym (one_of-single (get_or ids i d) q k.0)) (one_of-at ids i d below), k.1)) more)

  -- the starts of one side
  starts_wider : (xs zs : List ObjectId) (g n : Graphed S T) → ((o : ObjectId) → IsTrue (is_one_of xs o) → IsTrue (is_one_of zs o)) → HoldsMore h xs g n → TakesOnly (IsAncestorOfOne h zs) g n
  starts_wider xs zs g n among more = only_wider (λ q. IsTrue (is_one_of xs q) × Has h q) (IsAncestorOfOne h zs) g n (λ q k. (q, among q k.0, itself k.1)) more

  pub taken_first : (xs ys : List ObjectId) (m b n : Graphed S T) → b.held ≡ m.held → HoldsMore h xs b n → TakesOnly (IsAncestorOfOne h (xs ++ ys)) m n
  taken_first xs ys m b n same more =
      only_then (IsAncestorOfOne h (xs ++ ys)) m b n (only_held (IsAncestorOfOne h (xs ++ ys)) m b same) (starts_wider xs (xs ++ ys) b n (λ o k. one_of-left xs ys o k) more)

  pub taken_second : (xs ys : List ObjectId) (m g n : Graphed S T) → TakesOnly (IsAncestorOfOne h (xs ++ ys)) m g → HoldsMore h ys g n → TakesOnly (IsAncestorOfOne h (xs ++ ys)) m n
  taken_second xs ys m g n taken more = only_then (IsAncestorOfOne h (xs ++ ys)) m g n taken (starts_wider ys (xs ++ ys) g n (λ o k. one_of-right xs ys o k) more)

  -- then the parents of what was open
  pub taken_next : (starts q q1 : List ObjectId) (id : ObjectId) (m g mid n : Graphed S T) → ((c : ObjectId) → IsTrue (is_one_of q c) → IsAncestorOfOne h starts c) → IsPermutation q (id ∷ q1)
      → TakesOnly (IsAncestorOfOne h starts) m g → held_ids mid ≡ held_ids g → HoldsMore h (parents_in (entry_at h id)) mid n → TakesOnly (IsAncestorOfOne h starts) m n
  taken_next starts q q1 id m g mid n from perm taken same more =
      let up = from id (list_any-IsPermutation (same_id id) q (id ∷ q1) perm ∙ one_of-head id q1) in
      only_then (IsAncestorOfOne h starts) m mid n (only_then (IsAncestorOfOne h starts) m g mid taken (only_same (IsAncestorOfOne h starts) g mid same))
      (only_wider (λ q. IsTrue (is_one_of (parents_in (entry_at h id)) q) × Has h q) (IsAncestorOfOne h starts) mid n (λ q k. (up.0, up.1, further id q up.2 k)) more)
