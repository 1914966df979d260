-- What a walk from two sides is for, by its numbers.
use Rattle.std.proofs.Common.{◌≡◌, ℕ, Bool, true, false, refl, sym, subst, ◌∙◌, List, [], ◌∷◌, ◌++◌, ◌<◌, ◌+◌, take, length, get_or}
use Rattle.std.specs.List.{filter}
use Rattle.std.specs.List.Sorted.{IsPermutation}
use Rattle.std.proofs.lemmas.List.Sorted.{list_any-IsPermutation}
use Rattle.std.proofs.lemmas.Map.Keys.{IsDistinct-IsPermutation}
use Rattle.gix_base.specs.declared.hash.ObjectId.{ObjectId}
use Rattle.gix_revwalk.specs.Graph.{Graphed}
use Rattle.gix_revwalk.specs.History.{History, is_one_of, same_id}
use Rattle.gix_revwalk.specs.Number.{place_in}
use Rattle.gix_revwalk.specs.declared.numbers.Number.{Number}
use Rattle.gix_revwalk.proofs.Places.{same_id-sym}
use Rattle.gix_merge_base.specs.PaintQueue.{id_at, ids_at, AreIn}
use Rattle.gix_merge_base.proofs.Listed.{in-item, listed-push}
use Rattle.gix_merge_base.proofs.Numbered.{named-id}
use Rattle.gix_resolve.specs.ReachSides.{ListsFirst}
use Rattle.gix_resolve.proofs.ReachShown.{shown_kept, shown_left}

-- one number more, of a commit that is listed or left out
module _ {S T : Type 0} (p : ObjectId → Bool) (g : Graphed S T) (met : List Number) (i : ℕ) (d : Number) (below : i < length met) (ns ns' : List Number) where
  abbrev pub Passed : ℕ → List Number → Type 0
  Passed k l = AreIn g l × (ids_at g l ≡ filter p (take k (ids_at g met)))

  pub passed_kept : AreIn g met → p (id_at g (place_in (get_or met i d))) ≡ true → Passed i ns → ns' ≡ ns ++ get_or met i d ∷ [] → Passed (i + 1) ns'
  passed_kept all test old new =
      let n = get_or met i d in
      let within = in-item g met i d all below in
      let more = listed-push g ns n (id_at g (place_in n)) old.0 within refl in
      subst (Passed (i + 1)) (sym new) (more.0, shown_kept p g met i d below (ids_at g ns) (ids_at g (ns ++ n ∷ [])) (id_at g (place_in n)) test old.1 (named-id g (place_in n) within) more.1)

  pub passed_left : p (id_at g (place_in (get_or met i d))) ≡ false → Passed i ns → ns' ≡ ns → Passed (i + 1) ns'
  passed_left test old new = subst (Passed (i + 1)) (sym new) (old.0, shown_left p g met i d below (ids_at g ns) (ids_at g ns) test old.1 refl)

-- the list of what the first side alone reaches, moved about
pub first_permuted : (h : History) (xs ys ids moved : List ObjectId) → IsPermutation ids moved → ListsFirst h xs ys ids → ListsFirst h xs ys moved
first_permuted h xs ys ids moved perm k =
    let same : (c : ObjectId) → is_one_of ids c ≡ is_one_of moved c = λ c. list_any-IsPermutation (same_id c) ids moved perm in
    record {
      once = IsDistinct-IsPermutation same_id same_id-sym ids moved perm k.once;
      every = λ c q. sym (same c) ∙ k.every c q;
      may = λ c m. k.may c (same c ∙ m);
      exact = λ never c m. k.exact never c (same c ∙ m);
    }
