-- The walk loads only what it reaches.
use Rattle.std.proofs.Common.{◌≡◌, ℕ, zero, suc, sym, subst, ap, ◌∙◌, List, [], ◌∷◌, ◌++◌, ◌⊎◌, inl, inr, ◌<◌, take, length, get_or, is_some, Option, Some, None, IsTrue, false, refl, arith}
use Rattle.std.proofs.lemmas.List.{length-map}
use Rattle.gix_base.specs.declared.hash.ObjectId.{ObjectId}
use Rattle.gix_revwalk.specs.History.{History, Entry, Has, entry_at, parents_in, is_one_of, IsAncestor, IsAncestorOfOne}
use Rattle.gix_revwalk.specs.History.IsAncestor.{itself, further}
use Rattle.gix_revwalk.specs.Graph.{Graphed, held_at, held_ids}
use Rattle.gix_revwalk.specs.Number.{place_in}
use Rattle.gix_revwalk.specs.Walks.{HoldsMore}
use Rattle.gix_revwalk.specs.declared.numbers.Number.{Number}
use Rattle.gix_revwalk.proofs.Ancestors.{anc-trans, has_ancestor}
use Rattle.gix_revwalk.proofs.Members.{one_of-left, one_of-right, one_of-cases, one_of-at, one_of-single, one_of-head, one_of-tail, one_of-cons_cases}
use Rattle.gix_merge_base.specs.PaintQueue.{id_at, ids_at}
use Rattle.gix_merge_base.proofs.Numbered.{id-of-item}
use Rattle.gix_merge_base.proofs.QueueKeys.{kept-same, kept-held}
use Rattle.gix_resolve.specs.ListWalk.{Adds}
use Rattle.gix_resolve.specs.Taken.{TakesOnly}
use Rattle.gix_resolve.proofs.ListWalks.{Adding}

-- members of the first part of a list
one_of-first : (xs : List ObjectId) (i : ℕ) (q : ObjectId) → IsTrue (is_one_of (take i xs) q) → IsTrue (is_one_of xs q)
one_of-first [] zero q m = cc
one_of-first [] (suc i) q m = cc
one_of-first (x ∷ xs) zero q m = cc
one_of-first (x ∷ xs) (suc i) q m = elim (one_of-cons_cases x (take i xs) q m) as (λ _. IsTrue (is_one_of (x ∷ xs) q)) [
  | inl is ↦ subst (λ z. IsTrue (is_one_of (x ∷ xs) z)) (sym is) (one_of-head x xs)
  | inr k ↦ one_of-tail x xs q (one_of-first xs i q k)
]

-- what has a parent is there
has_parent : (e : Option Entry) (p : ObjectId) → IsTrue (is_one_of (parents_in e) p) → IsTrue (is_some e)
has_parent None p m = cc
has_parent (Some x) p m = refl

-- what the parents of a commit reach it reaches
above_parents : (h : History) (id : ObjectId) (ps : List ObjectId) (q : ObjectId) → ps ≡ parents_in (entry_at h id) → IsAncestorOfOne h ps q → IsAncestor h id q
above_parents h id ps q is k =
    let among = subst (λ l. IsTrue (is_one_of l k.0)) is k.1 in
    anc-trans h id k.0 q (further id k.0 (itself (has_parent (entry_at h id) k.0 among)) (among, (has_ancestor h k.0 q k.2).1)) k.2

-- two starts, in either order
pub swapped : (h : History) (a b q : ObjectId) → IsAncestorOfOne h (a ∷ b ∷ []) q → IsAncestorOfOne h (b ∷ a ∷ []) q
swapped h a b q k = elim (one_of-cons_cases a (b ∷ []) k.0 k.1) as (λ _. IsAncestorOfOne h (b ∷ a ∷ []) q) [
  | inl is ↦ (k.0, subst (λ z. IsTrue (is_one_of (b ∷ a ∷ []) z)) (sym is) (one_of-tail b (a ∷ []) a (one_of-head a [])), k.2)
  | inr m ↦ (k.0, subst (λ z. IsTrue (is_one_of (b ∷ a ∷ []) z)) (sym (one_of-single b k.0 m)) (one_of-head b (a ∷ [])), k.2)
]

-- what is added to a list leads back to the starts
added_reach : (h : History) (starts xs ys : List ObjectId) (o q : ObjectId) → Adds h starts xs ys → IsTrue (is_one_of ys o) → IsAncestor h o q → IsTrue (is_one_of xs o) ⊎ IsAncestorOfOne h starts q
added_reach h starts xs ys o q adds there path = elim (one_of-cases xs adds.0 o (subst (λ l. IsTrue (is_one_of l o)) adds.1 there)) as (λ _. IsTrue (is_one_of xs o) ⊎ IsAncestorOfOne h starts q) [
  | inl old ↦ inl old
  | inr new ↦ let a = ((adds.2 o).0 new).0 in inr (a.0, a.1, anc-trans h a.0 o q a.2 path)
]

-- after what the first starts reach, what one more start reaches
under_more : (h : History) (all xs ys : List ObjectId) (i : ℕ) (d q : ObjectId) → i < length all → Adds h (take i all) xs ys → IsAncestorOfOne h (ys ++ get_or all i d ∷ []) q → IsAncestorOfOne h (xs ++ all) q
under_more h all xs ys i d q below adds k = elim (one_of-cases ys (get_or all i d ∷ []) k.0 k.1) as (λ _. IsAncestorOfOne h (xs ++ all) q) [
  | inl there ↦ elim (added_reach h (take i all) xs ys k.0 q adds there k.2) as (λ _. IsAncestorOfOne h (xs ++ all) q) [
    | inl old ↦ (k.0, one_of-left xs all k.0 old, k.2)
    | inr new ↦ (new.0, one_of-right xs all new.0 (one_of-first all i new.0 new.1), new.2)
  ]
  | inr is ↦ (get_or all i d, one_of-right xs all (get_or all i d) (one_of-at all i d below), subst (λ z. IsAncestor h z q) (one_of-single (get_or all i d) k.0 is) k.2)
]

-- after what the hidden starts reach
under_hidden : (h : History) (hidden shown xs : List ObjectId) (q : ObjectId) → Adds h hidden [] xs → IsAncestorOfOne h (xs ++ shown) q → IsAncestorOfOne h (hidden ++ shown) q
under_hidden h hidden shown xs q adds k = elim (one_of-cases xs shown k.0 k.1) as (λ _. IsAncestorOfOne h (hidden ++ shown) q) [
  | inl there ↦ elim (added_reach h hidden [] xs k.0 q adds there k.2) as (λ _. IsAncestorOfOne h (hidden ++ shown) q) [
    | inl old ↦ let no : IsTrue false = old in cc
    | inr new ↦ (new.0, one_of-left hidden shown new.0 new.1, new.2)
  ]
  | inr is ↦ (k.0, one_of-right hidden shown k.0 is, k.2)
]

module _ {S T : Type 0} where
  -- no id more, the same held, one after the other, a wider set
  pub only_same : (P : ObjectId → Type 0) (m n : Graphed S T) → held_ids n ≡ held_ids m → TakesOnly P m n
  only_same P m n e q k = inl (kept-same n m (sym e) q k)

  pub only_held : (P : ObjectId → Type 0) (m n : Graphed S T) → n.held ≡ m.held → TakesOnly P m n
  only_held P m n e q k = inl (kept-held n m (sym e) q k)

  pub only_then : (P : ObjectId → Type 0) (a b c : Graphed S T) → TakesOnly P a b → TakesOnly P b c → TakesOnly P a c
  only_then P a b c p r q k = elim (r q k) as (λ _. IsTrue (is_some (held_at a q)) ⊎ P q) [ inl there ↦ p q there | inr new ↦ inr new ]

  pub only_wider : (P Q : ObjectId → Type 0) (m n : Graphed S T) → ((q : ObjectId) → P q → Q q) → TakesOnly P m n → TakesOnly Q m n
  only_wider P Q m n f p q k = elim (p q k) as (λ _. IsTrue (is_some (held_at m q)) ⊎ Q q) [ inl there ↦ inl there | inr new ↦ inr (f q new) ]

module _ {S T : Type 0} (h : History) where
  -- a commit alone
  pub only_alone : (id : ObjectId) (m n : Graphed S T) → HoldsMore h (id ∷ []) m n → TakesOnly (λ q. Has h id × (q ≡ id)) m n
  only_alone id m n more =
      only_wider (λ q. IsTrue (is_one_of (id ∷ []) q) × Has h q) (λ q. Has h id × (q ≡ id)) m n (λ q k. (subst (λ z. Has h z) (one_of-single id q k.0) k.1, one_of-single id q k.0)) more

  pub only_itself : (id : ObjectId) (m n : Graphed S T) → HoldsMore h (id ∷ []) m n → TakesOnly (IsAncestor h id) m n
  only_itself id m n more =
      only_wider (λ q. Has h id × (q ≡ id)) (IsAncestor h id) m n (λ q k. subst (λ z. IsAncestor h id z) (sym k.1) (itself k.0)) (only_alone id m n more)

  -- and what its parents reach
  pub only_above : (id : ObjectId) (ps : List ObjectId) (a b c : Graphed S T) → ps ≡ parents_in (entry_at h id) → HoldsMore h (id ∷ []) a b → TakesOnly (IsAncestorOfOne h ps) b c → TakesOnly (IsAncestor h id) a c
  only_above id ps a b c is more taken =
      only_then (IsAncestor h id) a b c (only_itself id a b more) (only_wider (IsAncestorOfOne h ps) (IsAncestor h id) b c (λ q k. above_parents h id ps q is k) taken)

  -- a start
  pub only_start : (xs : List ObjectId) (id : ObjectId) (m n : Graphed S T) → HoldsMore h (id ∷ []) m n → TakesOnly (IsAncestorOfOne h (xs ++ id ∷ [])) m n
  only_start xs id m n more =
      only_wider (λ q. IsTrue (is_one_of (id ∷ []) q) × Has h q) (IsAncestorOfOne h (xs ++ id ∷ [])) m n (λ q k. (q, one_of-right xs (id ∷ []) q k.0, itself k.1)) more

  -- then the parents of what was reached
  only_next : (id : ObjectId) (xs ys : List ObjectId) (i : ℕ) (d : ObjectId) (m n : Graphed S T) → Adding h id xs ys i → i < length ys
      → HoldsMore h (parents_in (entry_at h (get_or ys i d))) m n → TakesOnly (IsAncestorOfOne h (xs ++ id ∷ [])) m n
  only_next id xs ys i d m n at below more =
      let s = at.walked.sound (get_or ys i d) (one_of-at ys i d below) in
      only_wider (λ q. IsTrue (is_one_of (parents_in (entry_at h (get_or ys i d))) q) × Has h q) (IsAncestorOfOne h (xs ++ id ∷ [])) m n (λ q k. (s.0, s.1, further (get_or ys i d) q s.2 k)) more

  pub only_goes : (id : ObjectId) (xs : List ObjectId) (m g : Graphed S T) (ns : List Number) (i : ℕ) (d : Number) (n : Graphed S T) → Adding h id xs (ids_at g ns) i → i < length ns → d ≡ get_or ns i d
      → TakesOnly (IsAncestorOfOne h (xs ++ id ∷ [])) m g → HoldsMore h (parents_in (entry_at h (id_at g (place_in d)))) g n → TakesOnly (IsAncestorOfOne h (xs ++ id ∷ [])) m n
  only_goes id xs m g ns i d n at below item taken more =
      let len = length-map ns (λ (k : Number). id_at g (place_in k)) in
      let next : id_at g (place_in d) ≡ get_or (ids_at g ns) i (id_at g (place_in d)) = ap (λ k. id_at g (place_in k)) item ∙ id-of-item g g refl ns i d below in
      only_then (IsAncestorOfOne h (xs ++ id ∷ [])) m g n taken
      (only_next id xs (ids_at g ns) i (id_at g (place_in d)) g n at (omega arith) (subst (λ z. HoldsMore h (parents_in (entry_at h z)) g n) next more))

  -- what one more of all starts reaches
  pub only_more : (all xs ys : List ObjectId) (i : ℕ) (d : ObjectId) (m g n : Graphed S T) → i < length all → Adds h (take i all) xs ys → TakesOnly (IsAncestorOfOne h (xs ++ all)) m g
      → TakesOnly (IsAncestorOfOne h (ys ++ get_or all i d ∷ [])) g n → TakesOnly (IsAncestorOfOne h (xs ++ all)) m n
  only_more all xs ys i d m g n below adds taken more =
      only_then (IsAncestorOfOne h (xs ++ all)) m g n taken
      (only_wider (IsAncestorOfOne h (ys ++ get_or all i d ∷ [])) (IsAncestorOfOne h (xs ++ all)) g n (λ q k. under_more h all xs ys i d q below adds k) more)

  -- what the hidden ones reach, and then what the shown ones do
  pub only_hidden : (hidden shown : List ObjectId) (m b n : Graphed S T) → b.held ≡ m.held → TakesOnly (IsAncestorOfOne h hidden) b n → TakesOnly (IsAncestorOfOne h (hidden ++ shown)) m n
  only_hidden hidden shown m b n same taken =
      only_then (IsAncestorOfOne h (hidden ++ shown)) m b n (only_held (IsAncestorOfOne h (hidden ++ shown)) m b same)
      (only_wider (IsAncestorOfOne h hidden) (IsAncestorOfOne h (hidden ++ shown)) b n (λ q k. (k.0, one_of-left hidden shown k.0 k.1, k.2)) taken)

  pub only_shown : (hidden shown xs : List ObjectId) (m b n o : Graphed S T) → b.held ≡ m.held → TakesOnly (IsAncestorOfOne h hidden) b n → Adds h hidden [] xs
      → TakesOnly (IsAncestorOfOne h (xs ++ shown)) n o → TakesOnly (IsAncestorOfOne h (hidden ++ shown)) m o
  only_shown hidden shown xs m b n o same taken adds more =
      only_then (IsAncestorOfOne h (hidden ++ shown)) m n o (only_hidden hidden shown m b n same taken)
      (only_wider (IsAncestorOfOne h (xs ++ shown)) (IsAncestorOfOne h (hidden ++ shown)) n o (λ q k. under_hidden h hidden shown xs q adds k) more)

  -- either of two starts behind the other
  pub only_swapped : (a b : ObjectId) (m n : Graphed S T) → TakesOnly (IsAncestorOfOne h (b ∷ a ∷ [])) m n → TakesOnly (IsAncestorOfOne h (a ∷ b ∷ [])) m n
  only_swapped a b m n taken = only_wider (IsAncestorOfOne h (b ∷ a ∷ [])) (IsAncestorOfOne h (a ∷ b ∷ [])) m n (λ q k. swapped h b a q k) taken

  pub only_either : (a b : ObjectId) (m n o : Graphed S T) → TakesOnly (IsAncestorOfOne h (b ∷ a ∷ [])) m n → TakesOnly (IsAncestorOfOne h (a ∷ b ∷ [])) n o → TakesOnly (IsAncestorOfOne h (a ∷ b ∷ [])) m o
  only_either a b m n o first second = only_then (IsAncestorOfOne h (a ∷ b ∷ [])) m n o (only_swapped a b m n first) second
