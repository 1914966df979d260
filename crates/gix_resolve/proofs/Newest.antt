-- Ids sorted by generation number, time and id.
use Rattle.std.proofs.Common.{◌≡◌, ℕ, Bool, true, false, cond, refl, ap, sym, subst, ◌∙◌, List, [], ◌∷◌, ◌++◌, ◌||◌, ◌<◌, ◌+◌, take, length, get_or, map, Option, Some, None, is_some}
use Rattle.std.specs.List.{filter_map, dedup, dedup_from, AllByRecursion, IsDistinct}
use Rattle.std.specs.List.Sorted.{IsPermutation, IsSorted}
use Rattle.std.specs.Ordering.{is_lt}
use Rattle.std.specs.declared.cmp.Reverse.{Reverse}
use Rattle.std.proofs.lemmas.List.{length-map, map-append}
use Rattle.std.proofs.lemmas.List.Elements.{All-from_recursion, recursion_from_All, filter_map-append}
use Rattle.std.proofs.lemmas.List.Kept.{IsStrictlySortedBy-dedup}
use Rattle.std.proofs.lemmas.List.Sorted.{All-permutation}
use Rattle.std.proofs.lemmas.Map.Keys.{IsDistinct-head, IsDistinct-tail}
use Rattle.std.proofs.Math.ListN.{get_or-map}
use Rattle.gix_base.specs.declared.hash.ObjectId.{ObjectId}
use Rattle.gix_revwalk.specs.History.{History, Entry, entry_at, is_one_of, same_id}
use Rattle.gix_revwalk.specs.Graph.{Graphed}
use Rattle.gix_revwalk.specs.Number.{place_in}
use Rattle.gix_revwalk.specs.Numbers.{named}
use Rattle.gix_revwalk.specs.declared.numbers.Number.{Number}
use Rattle.gix_revwalk.proofs.Ids.{same_id-true}
use Rattle.gix_revwalk.proofs.Places.{same_id-sym}
use Rattle.gix_revwalk.proofs.Members.{take_next}
use Rattle.gix_merge_base.specs.Candidates.{Candidate, turned_at, id_in}
use Rattle.gix_merge_base.specs.Keys.{choice, IsInOrder}
use Rattle.gix_merge_base.specs.PaintQueue.{key_in, ids_at}
use Rattle.gix_merge_base.specs.declared.merge_base.gen_then_time.GenThenTime.{GenThenTime}
use Rattle.gix_merge_base.proofs.Choice.{choice_total, greater_first}
use Rattle.gix_merge_base.proofs.Sorting.{choice_ties, turned_cmp}
use Rattle.gix_resolve.specs.Newest.{turned_for}
use Rattle.gix_resolve.proofs.ListWalks.{ids-step}

-- the sort key of a commit that the history has
pub turned_some : (h : History) (id : ObjectId) (e : Entry) (key : GenThenTime) → entry_at h id ≡ Some e → key ≡ key_in (Some e) → Some (record { 0 = (key, record { 0 = id }) }) ≡ turned_at h id
turned_some h id e key has is = rw (has, is) refl

-- a commit that the history does not have has no sort key
pub turned_none : (h : History) (id : ObjectId) → is_some (entry_at h id) ≡ false → None ≡ turned_at h id
turned_none h id lacks = rw lacks refl

one_of-none : {A B : Type 0} (f : A → Option B) (x : A) → f x ≡ None → filter_map f (x ∷ []) ≡ []
one_of-none f x e = rw e refl

one_of-some : {A B : Type 0} (f : A → Option B) (x : A) (t : B) → f x ≡ Some t → filter_map f (x ∷ []) ≡ t ∷ []
one_of-some f x t e = rw e refl

append_none : {A : Type 0} (l : List A) → l ++ [] ≡ l
append_none [] = refl
append_none (x ∷ l) = ap (λ t. x ∷ t) (append_none l)

-- one id more
pub turned_skip : (h : History) (ids : List ObjectId) (i : ℕ) (d : ObjectId) (xs : List (Reverse Candidate)) → i < length ids → xs ≡ filter_map (turned_at h) (take i ids) → None ≡ turned_at h (get_or ids i d)
    → xs ≡ filter_map (turned_at h) (take (i + 1) ids)
turned_skip h ids i d xs below was none =
    was ∙ sym (ap (filter_map (turned_at h)) (take_next ids i d below) ∙ filter_map-append (turned_at h) (take i ids) (get_or ids i d ∷ [])
    ∙ ap (λ l. filter_map (turned_at h) (take i ids) ++ l) (one_of-none (turned_at h) (get_or ids i d) (sym none)) ∙ append_none (filter_map (turned_at h) (take i ids)))

pub turned_next : (h : History) (ids : List ObjectId) (i : ℕ) (d : ObjectId) (t : Reverse Candidate) (xs ys : List (Reverse Candidate)) → i < length ids → xs ≡ filter_map (turned_at h) (take i ids)
    → Some t ≡ turned_at h (get_or ids i d) → ys ≡ xs ++ t ∷ [] → ys ≡ filter_map (turned_at h) (take (i + 1) ids)
turned_next h ids i d t xs ys below was some new =
    new ∙ ap (λ l. l ++ t ∷ []) was
    ∙ sym (ap (filter_map (turned_at h)) (take_next ids i d below) ∙ filter_map-append (turned_at h) (take i ids) (get_or ids i d ∷ [])
    ∙ ap (λ l. filter_map (turned_at h) (take i ids) ++ l) (one_of-some (turned_at h) (get_or ids i d) t (sym some)))

-- the commit with a number
pub turned_is : (h : History) (id : ObjectId) (e : Entry) (key : GenThenTime) (t : Reverse Candidate) → t ≡ record { 0 = (key, record { 0 = id }) } → entry_at h id ≡ Some e → key ≡ key_in (Some e) → t ≡ turned_for h id
turned_is h id e key t put has is = rw (put, has, is) refl

-- what decides for one number more
pub turned_more : {S T : Type 0} (h : History) (g : Graphed S T) (ns : List Number) (i : ℕ) (d : Number) → i < length ns → (id : ObjectId) (t : Reverse Candidate) (xs ys : List (Reverse Candidate)) → named g (place_in (get_or ns i d)) ≡ Some id → t ≡ turned_for h id
    → xs ≡ map (turned_for h) (take i (ids_at g ns)) → ys ≡ xs ++ t ∷ [] → ys ≡ map (turned_for h) (take (i + 1) (ids_at g ns))
turned_more h g ns i d below id t xs ys called is old new =
    let ids = take i (ids_at g ns) in
    new ∙ ap (λ l. l ++ t ∷ []) old ∙ ap (λ z. map (turned_for h) ids ++ z ∷ []) is ∙ sym (map-append (turned_for h) ids (id ∷ []))
    ∙ ap (map (turned_for h)) (ids-step g ns i d below ids (ids ++ id ∷ []) id refl called refl)

-- their ids are those of the numbers
pub ids_turned : (h : History) (ids : List ObjectId) → map id_in (map (turned_for h) ids) ≡ ids
ids_turned h [] = refl
ids_turned h (x ∷ xs) = ap (λ l. x ∷ l) (ids_turned h xs)

module _ (h : History) where
  -- each is that of its id
  abbrev Turned : Reverse Candidate → Type 0
  Turned p = p ≡ turned_for h (id_in p)

  pub all_turned : (ids : List ObjectId) → AllByRecursion Turned (map (turned_for h) ids)
  all_turned [] = tt
  all_turned (x ∷ xs) = (refl, all_turned xs)

  pub are_turned : (ids : List ObjectId) → AllByRecursion Turned (filter_map (turned_at h) ids)
  are_turned [] = tt
  are_turned (x ∷ xs) = elim (is_some (entry_at h x)) as (λ b. is_some (entry_at h x) ≡ b → AllByRecursion Turned (filter_map (turned_at h) (x ∷ xs))) [
    | true ↦ λ e. rw e (refl, are_turned xs)
    | false ↦ λ e. rw e (are_turned xs)
  ] refl

  turned_again : (ps : List (Reverse Candidate)) → AllByRecursion Turned ps → ps ≡ map (turned_for h) (map id_in ps)
  turned_again [] a = refl
  turned_again (p ∷ ps) a = ap (λ q. q ∷ ps) a.0 ∙ ap (λ l. turned_for h (id_in p) ∷ l) (turned_again ps a.1)

  -- ids are in order if their sort keys are
  falls : (found : List ObjectId) → IsSorted (turned_cmp h) (map (turned_for h) found) → IsSorted (choice h) found
  falls found s k e low high =
      let at = s k (turned_for h e) low (rw (length-map found (turned_for h)) high) in
      let this = get_or-map (turned_for h) found k e in
      let next = get_or-map (turned_for h) found (k + 1) e in
      sym (ap is_lt (greater_first h (get_or found k e) (get_or found (k + 1) e)))
      ∙ sym (ap is_lt (ap (λ q. turned_cmp h q (get_or (map (turned_for h) found) k (turned_for h e))) next ∙ ap (turned_cmp h (turned_for h (get_or found (k + 1) e))) this)) ∙ at

  pub ids_rise : (qs ps : List (Reverse Candidate)) → AllByRecursion Turned qs → IsPermutation qs ps → IsSorted (turned_cmp h) ps → IsSorted (choice h) (map id_in ps)
  ids_rise qs ps turned perm sorted =
      let each = All-permutation Turned qs ps perm (All-from_recursion Turned qs turned) in
      falls (map id_in ps) (subst (IsSorted (turned_cmp h)) (turned_again ps (recursion_from_All Turned ps each)) sorted)

  pub once_in_order : (xs : List ObjectId) → IsSorted (choice h) xs → IsInOrder h (dedup same_id xs)
  once_in_order xs rises = IsStrictlySortedBy-dedup (choice_total h) (choice_ties h) xs rises

  -- ids that differ are in order without that
  pub in_order : (xs : List ObjectId) → IsDistinct same_id xs → IsSorted (choice h) xs → IsInOrder h xs
  in_order xs once rises = subst (IsInOrder h) (none_twice xs once) (once_in_order xs rises)
    where
      none_after : (x : ObjectId) (xs : List ObjectId) → IsDistinct same_id (x ∷ xs) → dedup_from same_id x xs ≡ x ∷ xs
      none_after x [] once = refl
      none_after x (y ∷ ys) once =
          let apart : same_id y x ≡ false = same_id-sym y x ∙ (IsDistinct-head same_id x (y ∷ ys) once).0 in
          rw apart (ap (λ l. x ∷ l) (none_after y ys (IsDistinct-tail same_id x (y ∷ ys) once)))

      none_twice : (xs : List ObjectId) → IsDistinct same_id xs → dedup same_id xs ≡ xs
      none_twice [] once = refl
      none_twice (x ∷ xs) once = none_after x xs once

-- a dropped duplicate is still a member
or_again : (a r : Bool) → (a || r) ≡ (a || (a || r))
or_again true r = refl
or_again false r = refl

one_of-dedup_from : (x : ObjectId) (xs : List ObjectId) (c : ObjectId) → is_one_of (dedup_from same_id x xs) c ≡ is_one_of (x ∷ xs) c
one_of-dedup_from x [] c = refl
one_of-dedup_from x (y ∷ ys) c = elim (same_id y x) as (λ b. same_id y x ≡ b → is_one_of (cond b (dedup_from same_id x ys) (x ∷ dedup_from same_id y ys)) c ≡ is_one_of (x ∷ y ∷ ys) c) [
  | true ↦ λ e. one_of-dedup_from x ys c ∙ or_again (same_id c x) (is_one_of ys c) ∙ ap (λ z. same_id c x || (same_id c z || is_one_of ys c)) (sym (same_id-true y x e))
  | false ↦ λ e. ap (λ b. same_id c x || b) (one_of-dedup_from y ys c)
] refl

pub one_of-dedup : (xs : List ObjectId) (c : ObjectId) → is_one_of (dedup same_id xs) c ≡ is_one_of xs c
one_of-dedup [] c = refl
one_of-dedup (x ∷ xs) c = one_of-dedup_from x xs c
