-- What a walk from two sides is for, as a list.
use Rattle.std.proofs.Common.{◌≡◌, ℕ, Bool, true, false, cond, refl, ap, sym, ◌∙◌, List, [], ◌∷◌, ◌++◌, ◌<◌, ◌+◌, take, length, get_or, Some, is_some, Option, None, IsTrue, arith, ◌&&◌, ◌⊎◌, inl, inr, not, true≢false}
use Rattle.std.specs.Option.{unwrap_or}
use Rattle.std.specs.List.{filter, IsDistinct}
use Rattle.std.specs.List.Sorted.{IsSorted, IsPermutation}
use Rattle.std.proofs.lemmas.List.Sorted.{list_any-IsPermutation}
use Rattle.std.proofs.lemmas.Map.Keys.{IsDistinct-IsPermutation}
use Rattle.gix_base.specs.Hash.{id_order}
use Rattle.std.proofs.lemmas.List.{length-map, append-nil}
use Rattle.std.proofs.lemmas.List.Elements.{filter-append}
use Rattle.gix_base.specs.declared.hash.ObjectId.{ObjectId}
use Rattle.gix_revwalk.specs.History.{History, is_one_of, same_id, IsBeyond}
use Rattle.gix_revwalk.specs.Graph.{Graphed}
use Rattle.gix_revwalk.specs.Data.{mark_at}
use Rattle.gix_revwalk.specs.Number.{place_in}
use Rattle.gix_revwalk.specs.Numbers.{named}
use Rattle.gix_revwalk.specs.declared.graph.commit.Commit.{Commit}
use Rattle.gix_revwalk.specs.declared.numbers.Mark.{Mark}
use Rattle.gix_revwalk.specs.declared.numbers.Number.{Number}
use Rattle.gix_revwalk.proofs.Members.{take_next, one_of-filter, one_of-filtered, distinct_filter}
use Rattle.gix_merge_base.specs.Marks.{MarkSet, marks_of, no_marks}
use Rattle.gix_merge_base.specs.PaintQueue.{id_at, ids_at, marks_at, no_mark}
use Rattle.gix_merge_base.specs.declared.merge_base.flags.Flags.{Flags}
use Rattle.gix_merge_base.proofs.Numbered.{id-of-item}
use Rattle.gix_resolve.specs.ReachSides.{hides, shows, is_first_alone, is_second_alone, Sees, ListsFirst, ListsEither}
use Rattle.gix_resolve.specs.Reachable.{CoversBeyond}
use Rattle.gix_resolve.specs.ReachWalk.{AreMet}
use Rattle.gix_revwalk.proofs.Places.{same_id-sym}
use Rattle.gix_resolve.proofs.ListSorted.{rising}
use Rattle.gix_resolve.proofs.ReachSides.{shown-not_hidden}

-- one number more, of a commit that is listed or left out
module _ {S T : Type 0} (p : ObjectId → Bool) (g : Graphed S T) (ns : List Number) (i : ℕ) (d : Number) (below : i < length ns) (xs ys : List ObjectId) where
  next : filter p (take (i + 1) (ids_at g ns)) ≡ filter p (take i (ids_at g ns)) ++ cond (p (id_at g (place_in (get_or ns i d)))) (id_at g (place_in (get_or ns i d)) ∷ []) []
  next =
      let len = length-map ns (λ (k : Number). id_at g (place_in k)) in
      ap (filter p) (take_next (ids_at g ns) i (id_at g (place_in d)) (omega arith) ∙ ap (λ z. take i (ids_at g ns) ++ z ∷ []) (sym (id-of-item g g refl ns i d below)))
      ∙ filter-append p (take i (ids_at g ns)) (id_at g (place_in (get_or ns i d)) ∷ [])

  pub shown_kept : (id : ObjectId) → p (id_at g (place_in (get_or ns i d))) ≡ true → xs ≡ filter p (take i (ids_at g ns)) → named g (place_in (get_or ns i d)) ≡ Some id → ys ≡ xs ++ id ∷ [] → ys ≡ filter p (take (i + 1) (ids_at g ns))
  shown_kept id test old is new =
      let x = id_at g (place_in (get_or ns i d)) in
      let here : id ≡ x = sym (ap (λ o. unwrap_or o (record { 0 = [] })) is) in
      new ∙ ap (λ z. xs ++ z ∷ []) here ∙ ap (λ l. l ++ x ∷ []) old ∙ sym (next ∙ ap (λ b. filter p (take i (ids_at g ns)) ++ cond b (x ∷ []) []) test)

  pub shown_left : p (id_at g (place_in (get_or ns i d))) ≡ false → xs ≡ filter p (take i (ids_at g ns)) → ys ≡ xs → ys ≡ filter p (take (i + 1) (ids_at g ns))
  shown_left test old new =
      let x = id_at g (place_in (get_or ns i d)) in
      new ∙ old ∙ sym (next ∙ ap (λ b. filter p (take i (ids_at g ns)) ++ cond b (x ∷ []) []) test ∙ append-nil (filter p (take i (ids_at g ns))))

-- what has a mark of a side was met
marked_one : (o : Option (Mark Flags)) → is_some o ≡ false → marks_of (unwrap_or o no_mark).marks ≡ no_marks
marked_one None e = refl
marked_one (Some x) e = absurd (true≢false e)

pub met-marked : {S A : Type 0} (g : Graphed S (Commit Flags A)) (both : Bool) (ns : List Number) (p : MarkSet → Bool) → p no_marks ≡ false → ((m : MarkSet) → IsTrue (p m) → hides both m ≡ false) → AreMet both g ns → (c : ObjectId) → IsTrue (p (marks_at g c)) → IsTrue (is_one_of (ids_at g ns) c)
met-marked g both ns p none free at c k =
    elim (is_some (mark_at g c)) as (λ b. is_some (mark_at g c) ≡ b → IsTrue (is_one_of (ids_at g ns) c)) [
      | true ↦ λ e. at.every c e (free (marks_at g c) k)
      | false ↦ λ e. absurd (true≢false (sym k ∙ ap p (marked_one (mark_at g c) e) ∙ none))
    ] refl

-- what was met and passes a test, each once
pub passing : {S A : Type 0} (g : Graphed S (Commit Flags A)) (both : Bool) (ns : List Number) (p : MarkSet → Bool) → p no_marks ≡ false → ((m : MarkSet) → IsTrue (p m) → hides both m ≡ false) → AreMet both g ns → (ids : List ObjectId) → ids ≡ filter (λ c. p (marks_at g c)) (ids_at g ns)
    → IsDistinct same_id ids × ((c : ObjectId) → IsTrue (is_one_of ids c) → IsTrue (p (marks_at g c))) × ((c : ObjectId) → IsTrue (p (marks_at g c)) → IsTrue (is_one_of ids c))
passing g both ns p none free at ids is = rw is (
  distinct_filter (λ c. p (marks_at g c)) (ids_at g ns) at.once,
  (λ c m. (one_of-filter (λ c. p (marks_at g c)) (ids_at g ns) c m).1),
  (λ c k. one_of-filtered (λ c. p (marks_at g c)) (ids_at g ns) c (met-marked g both ns p none free at c k) k),
)

first_shows : (both : Bool) (m : MarkSet) → IsTrue (is_first_alone m) → IsTrue (shows both m)
first_shows both m k = by m.one m.two k
  where
    by : (a b : Bool) → IsTrue (a && not b) → IsTrue (cond a (not b) (both && b))
    by true b k = k
    by false b k = cc

second_shows : (m : MarkSet) → IsTrue (is_second_alone m) → IsTrue (shows true m)
second_shows m k = by m.one m.two k
  where
    by : (a b : Bool) → IsTrue (b && not a) → IsTrue (cond a (not b) (true && b))
    by true true k = cc
    by true false k = cc
    by false true k = refl
    by false false k = cc

pub left : (a b : Bool) → IsTrue (a && b) → IsTrue a
left true b k = refl
left false b k = cc

-- what one side alone reaches is not hidden
pub first-not_hidden : (both : Bool) (m : MarkSet) → IsTrue (is_first_alone m) → hides both m ≡ false
first-not_hidden both m k = shown-not_hidden both m (first_shows both m k)

pub second-not_hidden : (both : Bool) → IsTrue both → (m : MarkSet) → IsTrue (is_second_alone m) → hides both m ≡ false
second-not_hidden true t m k = shown-not_hidden true m (second_shows m k)
second-not_hidden false t m k = cc

pub lists_first : {S A : Type 0} (h : History) (xs ys : List ObjectId) (g : Graphed S (Commit Flags A)) (ns : List Number) (ids : List ObjectId) → AreMet false g ns → Sees h xs ys false (marks_at g)
    → ids ≡ filter (λ c. is_first_alone (marks_at g c)) (ids_at g ns) → ListsFirst h xs ys ids
lists_first h xs ys g ns ids at sees is =
    let pass = passing g false ns is_first_alone refl (first-not_hidden false) at ids is in
    record {
      once = pass.0;
      every = λ c k. pass.2 c (sees.first c k);
      may = λ c m. sees.one c (left (marks_at g c).one (not (marks_at g c).two) (pass.1 c m));
      exact = λ never c m. (sees.one c (left (marks_at g c).one (not (marks_at g c).two) (pass.1 c m)), sees.no_second never c (pass.1 c m));
    }

-- what is wanted of both sides one of them alone reaches
shown_alone : (m : MarkSet) → IsTrue (shows true m) → IsTrue (is_first_alone m) ⊎ IsTrue (is_second_alone m)
shown_alone m k = by m.one m.two k
  where
    by : (a b : Bool) → IsTrue (cond a (not b) (true && b)) → IsTrue (a && not b) ⊎ IsTrue (b && not a)
    by true b k = inl k
    by false true k = inr refl
    by false false k = cc

pub lists_either : {S A : Type 0} (h : History) (xs ys : List ObjectId) (g : Graphed S (Commit Flags A)) (ns : List Number) (ids : List ObjectId) → AreMet true g ns → Sees h xs ys true (marks_at g)
    → ids ≡ filter (λ c. shows true (marks_at g c)) (ids_at g ns) → ListsEither h xs ys ids
lists_either h xs ys g ns ids at sees is =
    let pass = passing g true ns (shows true) refl (shown-not_hidden true) at ids is in
    record {
      once = pass.0;
      every = λ c k. pass.2 c (elim k as (λ _. IsTrue (shows true (marks_at g c))) [
        | inl q ↦ first_shows true (marks_at g c) (sees.first c q)
        | inr q ↦ second_shows (marks_at g c) (sees.second refl c q)
      ]);
      exact = λ never c m. elim (shown_alone (marks_at g c) (pass.1 c m)) as (λ _. IsBeyond h ys xs c ⊎ IsBeyond h xs ys c) [
        | inl a ↦ inl (sees.one c (left (marks_at g c).one (not (marks_at g c).two) a), sees.no_second never c a)
        | inr b ↦ inr (sees.two c (left (marks_at g c).two (not (marks_at g c).one) b), sees.no_first never refl c b)
      ];
    }

-- if only one side is wanted
pub shows_first : (m : MarkSet) → shows false m ≡ is_first_alone m
shows_first m = by m.one m.two
  where
    by : (a b : Bool) → cond a (not b) (false && b) ≡ (a && not b)
    by true b = refl
    by false b = refl

-- the same in rising order
pub sorted-covers : (h : History) (xs ys ids sorted : List ObjectId) → ListsFirst h xs ys ids → IsPermutation ids sorted → IsSorted id_order sorted → CoversBeyond h ys xs sorted
sorted-covers h xs ys ids sorted k perm order =
    let same : (c : ObjectId) → is_one_of ids c ≡ is_one_of sorted c = λ c. list_any-IsPermutation (same_id c) ids sorted perm in
    record {
      every = λ c q. sym (same c) ∙ k.every c q;
      shown = λ c m. k.may c (same c ∙ m);
      rising = rising sorted order (IsDistinct-IsPermutation same_id same_id-sym ids sorted perm k.once);
    }
