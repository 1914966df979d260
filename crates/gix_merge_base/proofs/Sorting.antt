-- Commits that are put in order.
use Rattle.std.proofs.Common.{◌≡◌, ℕ, Bool, true, false, cond, refl, ap, sym, subst, ◌∙◌, List, [], ◌∷◌, ◌++◌, IsTrue, ◌↔◌, Some, None, is_some, map, ◌<◌, ◌≤◌, ◌+◌, length, get_or, take, arith}
use Rattle.std.specs.List.{IsDistinct, filter, filter_map, dedup_from, AllByRecursion}
use Rattle.std.specs.List.Sorted.{IsPermutation, IsSorted, IsStrictlySortedBy}
use Rattle.std.specs.Ordering.{is_lt, is_eq, eq_by_cmp}
use Rattle.std.specs.Cmp.{tied_itself}
use Rattle.std.specs.declared.cmp.Ordering.{Ordering}
use Rattle.std.specs.declared.cmp.Reverse.{Reverse}
use Rattle.std.proofs.lemmas.List.{append-nil, length-map}
use Rattle.std.proofs.lemmas.List.Elements.{All-from_recursion, recursion_from_All, filter_map-append}
use Rattle.std.proofs.lemmas.List.Kept.{IsStrictlySortedBy-dedup}
use Rattle.std.proofs.lemmas.List.Sorted.{All-permutation, IsPermutation-map, list_any-IsPermutation}
use Rattle.std.proofs.lemmas.Map.Keys.{IsDistinct-IsPermutation}
use Rattle.std.proofs.Math.ListN.{get_or-map}
use Rattle.gix_base.specs.declared.hash.ObjectId.{ObjectId}
use Rattle.gix_revwalk.specs.History.{History, Has, entry_at, is_one_of, same_id}
use Rattle.gix_merge_base.specs.Keys.{choice, IsInOrder}
use Rattle.gix_merge_base.specs.Candidates.{Candidate, candidate_for, candidate_at, turned_at, id_in}
use Rattle.gix_revwalk.proofs.Ids.{same_id-true, same_id-equal}
use Rattle.gix_revwalk.proofs.Members.{one_of-filter, one_of-filtered, distinct_filter, take_next}
use Rattle.gix_merge_base.proofs.Choice.{choice_total, choice-same, candidate_cmp, greater_first}

-- the order tells ids apart as their bytes do
pub choice_ties : (h : History) (x y : ObjectId) → same_id x y ≡ eq_by_cmp (choice h) x y
choice_ties h x y =
    elim (same_id x y) as (λ b. same_id x y ≡ b → b ≡ eq_by_cmp (choice h) x y) [
      | true ↦ λ e. sym (ap (λ z. is_eq (choice h x z)) (sym (same_id-true x y e)) ∙ ap is_eq (tied_itself (choice_total h) x))
      | false ↦ λ e. untied (choice h x y) refl e
    ] refl
  where
    untied : (r : Ordering) → choice h x y ≡ r → same_id x y ≡ false → false ≡ is_eq r
    untied Ordering.Less is e = refl
    untied Ordering.Equal is e = sym e ∙ same_id-equal x y (choice-same h x y is)
    untied Ordering.Greater is e = refl

same_id-flips : (x y : ObjectId) → same_id x y ≡ same_id y x
same_id-flips x y =
    elim (same_id x y) as (λ b. same_id x y ≡ b → b ≡ same_id y x) [
      | true ↦ λ e. sym (same_id-equal y x (sym (same_id-true x y e)))
      | false ↦ λ e. elim (same_id y x) as (λ b. same_id y x ≡ b → false ≡ b) [
        | true ↦ λ f. sym e ∙ same_id-equal x y (sym (same_id-true y x f))
        | false ↦ λ f. refl
      ] refl
    ] refl

-- of different ids none is dropped
dedup_distinct : (x : ObjectId) (xs : List ObjectId) → IsDistinct same_id (x ∷ xs) → dedup_from same_id x xs ≡ x ∷ xs
unfolding IsDistinct
dedup_distinct x [] d = refl
dedup_distinct x (y ∷ ys) d =
    let off : same_id y x ≡ false = same_id-flips y x ∙ d.0.0 in
    rw off (ap (λ l. x ∷ l) (dedup_distinct y ys d.1))

-- different ids that do not fall in the order rise in it
strictly : (h : History) (xs : List ObjectId) → IsDistinct same_id xs → IsSorted (choice h) xs → IsInOrder h xs
strictly h [] d s = IsStrictlySortedBy-dedup (choice_total h) (choice_ties h) [] s
strictly h (x ∷ xs) d s = subst (IsInOrder h) (dedup_distinct x xs d) (IsStrictlySortedBy-dedup (choice_total h) (choice_ties h) (x ∷ xs) s)

-- at most one id is in order
pub few_in_order : (h : History) (xs : List ObjectId) → length xs ≤ 1 → IsInOrder h xs
unfolding IsStrictlySortedBy
few_in_order h [] few = tt
few_in_order h (x ∷ []) few = (tt, tt)
few_in_order h (x ∷ y ∷ xs) few = absurd (omega arith)

module _ (h : History) where
  -- what is sorted for an id that the history has
  abbrev turned_for : ObjectId → Reverse Candidate
  turned_for id = record { 0 = candidate_for h id }

  -- whether the history has an id
  abbrev has : ObjectId → Bool
  has id = is_some (entry_at h id)

  abbrev pub turned_cmp : Reverse Candidate → Reverse Candidate → Ordering
  turned_cmp a b = candidate_cmp b.0 a.0

  -- the next id of a list: it has a candidate where the history has it
  pub turned_skip : (ids : List ObjectId) (i : ℕ) (d : ObjectId) (candidates : List (Reverse Candidate)) → i < length ids → candidates ≡ filter_map (turned_at h) (take i ids)
      → None ≡ candidate_at h (get_or ids i d) → candidates ≡ filter_map (turned_at h) (take (i + 1) ids)
  turned_skip ids i d candidates lt was none =
      was ∙ sym (ap (filter_map (turned_at h)) (take_next ids i d lt) ∙ filter_map-append (turned_at h) (take i ids) (get_or ids i d ∷ []) ∙ rw (sym none) (append-nil (filter_map (turned_at h) (take i ids))))

  pub turned_push : (ids : List ObjectId) (i : ℕ) (d : ObjectId) (c : Candidate) (candidates : List (Reverse Candidate)) → i < length ids → candidates ≡ filter_map (turned_at h) (take i ids)
      → Some c ≡ candidate_at h (get_or ids i d) → candidates ++ record { 0 = c } ∷ [] ≡ filter_map (turned_at h) (take (i + 1) ids)
  turned_push ids i d c candidates lt was some =
      ap (λ l. l ++ record { 0 = c } ∷ []) was ∙ sym (ap (filter_map (turned_at h)) (take_next ids i d lt) ∙ filter_map-append (turned_at h) (take i ids) (get_or ids i d ∷ []) ∙ rw (sym some) refl)

  -- the ids of candidates are those that the history has
  ids_back : (ids : List ObjectId) → map id_in (filter_map (turned_at h) ids) ≡ filter has ids
  ids_back [] = refl
  ids_back (x ∷ xs) = elim (has x) as (λ b. has x ≡ b → map id_in (filter_map (turned_at h) (x ∷ xs)) ≡ cond b (x ∷ filter has xs) (filter has xs)) [
    | true ↦ λ e. rw e (ap (λ l. x ∷ l) (ids_back xs))
    | false ↦ λ e. rw e (ids_back xs)
  ] refl

  -- each is that of its id
  are_turned : (ids : List ObjectId) → AllByRecursion (λ p. p ≡ turned_for (id_in p)) (filter_map (turned_at h) ids)
  are_turned [] = tt
  are_turned (x ∷ xs) = elim (has x) as (λ b. has x ≡ b → AllByRecursion (λ p. p ≡ turned_for (id_in p)) (filter_map (turned_at h) (x ∷ xs))) [
    | true ↦ λ e. rw e (refl, are_turned xs)
    | false ↦ λ e. rw e (are_turned xs)
  ] refl

  turned_again : (ps : List (Reverse Candidate)) → AllByRecursion (λ p. p ≡ turned_for (id_in p)) ps → ps ≡ map turned_for (map id_in ps)
  turned_again [] a = refl
  turned_again (p ∷ ps) a = ap (λ q. q ∷ ps) a.0 ∙ ap (λ l. turned_for (id_in p) ∷ l) (turned_again ps a.1)

  module _ (ids : List ObjectId) (ps : List (Reverse Candidate)) (perm : IsPermutation (filter_map (turned_at h) ids) ps) where
    abbrev found : List ObjectId
    found = map id_in ps

    moved : IsPermutation (filter has ids) found
    moved = subst (λ l. IsPermutation l found) (ids_back ids) (IsPermutation-map id_in (filter_map (turned_at h) ids) ps perm)

    pub found_same : (c : ObjectId) → IsTrue (is_one_of found c) ↔ (IsTrue (is_one_of ids c) × Has h c)
    found_same c =
        let is : is_one_of (filter has ids) c ≡ is_one_of found c = list_any-IsPermutation (same_id c) (filter has ids) found moved in
        ((λ k. one_of-filter has ids c (is ∙ k)), (λ k. sym is ∙ one_of-filtered has ids c k.0 k.1))

    pub found_once : IsDistinct same_id ids → IsDistinct same_id found
    found_once d = IsDistinct-IsPermutation same_id same_id-flips (filter has ids) found moved (distinct_filter has ids d)

    pub found_in_order : IsSorted turned_cmp ps → IsDistinct same_id ids → IsInOrder h found
    found_in_order sorted d =
        let all = recursion_from_All (λ p. p ≡ turned_for (id_in p)) ps (All-permutation (λ p. p ≡ turned_for (id_in p)) (filter_map (turned_at h) ids) ps perm (All-from_recursion (λ p. p ≡ turned_for (id_in p)) (filter_map (turned_at h) ids) (are_turned ids))) in
        let again : IsSorted turned_cmp (map turned_for found) = subst (IsSorted turned_cmp) (turned_again ps all) sorted in
        strictly h found (found_once d) (falls again)
      where
        falls : IsSorted turned_cmp (map turned_for found) → IsSorted (choice h) found
        falls s k e low high =
            let at = s k (turned_for e) low (rw (length-map found turned_for) high) in
            let this = get_or-map turned_for found k e in
            let next = get_or-map turned_for found (k + 1) e in
            sym (ap is_lt (greater_first h (get_or found k e) (get_or found (k + 1) e))) ∙ sym (ap is_lt (ap (λ q. turned_cmp q (get_or (map turned_for found) k (turned_for e))) next ∙ ap (turned_cmp (turned_for (get_or found (k + 1) e))) this)) ∙ at
