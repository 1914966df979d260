-- The walk that lists ancestors beyond those that are listed, over lists of ids.
use Rattle.std.proofs.Common.{◌≡◌, ℕ, zero, suc, true, false, cond, refl, ap, sym, subst, ◌∙◌, List, [], ◌∷◌, ◌++◌, inl, inr, ◌<◌, ◌≤◌, ◌+◌, ◌-◌, take, drop, length, get_or, is_some, append_assoc, IsTrue, ◌↔◌, arith, true≢false, Some}
use Rattle.std.specs.List.{IsDistinct, filter, AllByRecursion}
use Rattle.std.proofs.lemmas.Map.Keys.{IsDistinct-head, IsDistinct-tail}
use Rattle.std.proofs.lemmas.List.{append-nil}
use Rattle.gix_base.specs.declared.hash.ObjectId.{ObjectId}
use Rattle.gix_revwalk.specs.History.{History, entry_at, same_id, is_one_of, Has, parents_in, IsAncestor, IsAncestorOfOne}
use Rattle.gix_revwalk.specs.History.IsAncestor.{itself, further}
use Rattle.gix_revwalk.specs.Sizes.{Lists}
use Rattle.gix_revwalk.specs.Walks.{added, all_added, visited, all_visited}
use Rattle.std.proofs.lemmas.List.{length-map, take_all, length-drop, drop-map}
use Rattle.gix_revwalk.specs.Graph.{Graphed, held_ids}
use Rattle.gix_revwalk.specs.Number.{place_in}
use Rattle.std.specs.Option.{unwrap_or}
use Rattle.gix_revwalk.specs.Numbers.{named}
use Rattle.gix_revwalk.specs.declared.numbers.Number.{Number}
use Rattle.gix_merge_base.specs.PaintQueue.{id_at, ids_at, AreIn}
use Rattle.gix_merge_base.proofs.Numbered.{id-of-item}
use Rattle.gix_revwalk.proofs.Members.{nothing, one_of-left, one_of-right, one_of-cases, one_of-cons_cases, take_next}
use Rattle.gix_revwalk.proofs.Ids.{same_id-equal}
use Rattle.gix_revwalk.proofs.Walk.{Walked, visits_all, walk_goes, walk_ends}
use Rattle.gix_resolve.specs.ListWalk.{AreClosed, Adds, AreJust}

-- a list to which only commits are added is one that visits them
pub added-visited : (h : History) (xs : List ObjectId) (p : ObjectId) → Has h p → added xs p ≡ visited h xs p
added-visited h xs p has = ap (λ b. cond (is_one_of xs p) xs (cond b (xs ++ p ∷ []) xs)) (sym has)

pub unvisited : (h : History) (xs : List ObjectId) (p : ObjectId) → is_some (entry_at h p) ≡ false → visited h xs p ≡ xs
unvisited h xs p lacks = ap (λ b. cond (is_one_of xs p) xs (cond b (xs ++ p ∷ []) xs)) lacks ∙ elim (is_one_of xs p) as (λ b. cond b xs xs ≡ xs) [ true ↦ refl | false ↦ refl ]

pub all_added-visited : (h : History) (xs ps : List ObjectId) → all_added xs (filter (λ p. is_some (entry_at h p)) ps) ≡ all_visited h xs ps
all_added-visited h xs [] = refl
all_added-visited h xs (p ∷ ps) =
    elim (is_some (entry_at h p)) as (λ b. is_some (entry_at h p) ≡ b
    → all_added xs (cond b (p ∷ filter (λ p. is_some (entry_at h p)) ps) (filter (λ p. is_some (entry_at h p)) ps)) ≡ all_visited h (visited h xs p) ps) [
      | true ↦ λ has. ap (λ l. all_added l (filter (λ p. is_some (entry_at h p)) ps)) (added-visited h xs p has) ∙ all_added-visited h (visited h xs p) ps
      | false ↦ λ lacks. all_added-visited h xs ps ∙ ap (λ l. all_visited h l ps) (sym (unvisited h xs p lacks))
    ] refl

-- one id after others
pub all_added-push : (xs ps : List ObjectId) (p : ObjectId) → all_added xs (ps ++ p ∷ []) ≡ added (all_added xs ps) p
all_added-push xs [] p = refl
all_added-push xs (q ∷ ps) p = all_added-push (added xs q) ps p

all_added-next : (xs ps : List ObjectId) (i : ℕ) (d : ObjectId) → i < length ps → all_added xs (take (i + 1) ps) ≡ added (all_added xs (take i ps)) (get_or ps i d)
all_added-next xs ps i d below = ap (all_added xs) (take_next ps i d below) ∙ all_added-push xs (take i ps) (get_or ps i d)

pub added-step : {S T : Type 0} (m n : Graphed S T) → held_ids n ≡ held_ids m → (ns : List Number) (i : ℕ) (d : Number) → i < length ns → (xs ys zs : List ObjectId) → ys ≡ all_added xs (take i (ids_at m ns))
    → zs ≡ added ys (id_at n (place_in (get_or ns i d))) → zs ≡ all_added xs (take (i + 1) (ids_at m ns))
added-step m n e ns i d below xs ys zs old new =
    let len = length-map ns (λ (k : Number). id_at m (place_in k)) in
    new ∙ ap (added ys) (id-of-item m n e ns i d below) ∙ ap (λ l. added l (get_or (ids_at m ns) i (id_at m (place_in d)))) old
    ∙ sym (all_added-next xs (ids_at m ns) i (id_at m (place_in d)) (omega arith))

-- between two steps of the walk that adds the ancestors of id to xs, where i of ys were followed
pub record Adding (h : History) (id : ObjectId) (xs ys : List ObjectId) (i : ℕ) : Type 0 where
  pub walked : Walked h (xs ++ id ∷ []) ys i
  pub more : List ObjectId
  pub is : ys ≡ xs ++ more

adding_first : (h : History) (id : ObjectId) (xs : List ObjectId) → AreClosed h xs → Adding h id xs (visited h xs id) (length xs)
adding_first h id xs at =
    let v = visits_all h xs (id ∷ []) in
    let first : take (length xs) (visited h xs id) ≡ xs = ap (take (length xs)) v.is ∙ take-length xs v.more in
    record {
      walked = record {
        once = v.once at.once;
        has = λ q m. elim (v.from q m) as (λ _. Has h q) [ inl k ↦ at.has q k | inr k ↦ k.1 ];
        sound = λ q m. elim (v.from q m) as (λ _. IsAncestorOfOne h (xs ++ id ∷ []) q) [
          | inl k ↦ (q, one_of-left xs (id ∷ []) q k, itself (at.has q k))
          | inr k ↦ (q, one_of-right xs (id ∷ []) q k.0, itself k.1)
        ];
        begun = λ o m has. elim (one_of-cases xs (id ∷ []) o m) as (λ _. IsTrue (is_one_of (visited h xs id) o)) [
          | inl k ↦ subst (λ l. IsTrue (is_one_of l o)) (sym v.is) (one_of-left xs v.more o k)
          | inr k ↦ v.gets o k has
        ];
        closed = λ x q m e. subst (λ l. IsTrue (is_one_of l q)) (sym v.is) (one_of-left xs v.more q (at.closed x q (subst (λ l. IsTrue (is_one_of l x)) first m) e));
      };
      more = v.more;
      is = v.is;
    }
  where
    take-length : (xs ys : List ObjectId) → take (length xs) (xs ++ ys) ≡ xs
    take-length [] ys = refl
    take-length (x ∷ xs) ys = ap (λ l. x ∷ l) (take-length xs ys)

pub adding_begins : (h : History) (id : ObjectId) (xs ys : List ObjectId) (i : ℕ) → AreClosed h xs → ys ≡ visited h xs id → i ≡ length xs → Adding h id xs ys i
adding_begins h id xs ys i at is len = rw (is, len) (adding_first h id xs at)

-- the parents of the next one are visited
adding_next : (h : History) (id : ObjectId) (xs ys : List ObjectId) (i : ℕ) (d : ObjectId) → Adding h id xs ys i → i < length ys
    → Adding h id xs (all_visited h ys (parents_in (entry_at h (get_or ys i d)))) (i + 1)
adding_next h id xs ys i d at below =
    let v = visits_all h ys (parents_in (entry_at h (get_or ys i d))) in
    record {
      walked = walk_goes h (xs ++ id ∷ []) ys i d at.walked below;
      more = at.more ++ v.more;
      is = v.is ∙ ap (λ l. l ++ v.more) at.is ∙ append_assoc xs at.more v.more;
    }

pub adding_goes : {S T : Type 0} (h : History) (id : ObjectId) (xs : List ObjectId) (g : Graphed S T) (ns : List Number) (i : ℕ) (d : Number) (zs : List ObjectId) → Adding h id xs (ids_at g ns) i → i < length ns → d ≡ get_or ns i d
    → zs ≡ all_visited h (ids_at g ns) (parents_in (entry_at h (id_at g (place_in d)))) → Adding h id xs zs (i + 1)
adding_goes h id xs g ns i d zs at below item is =
    let len = length-map ns (λ (k : Number). id_at g (place_in k)) in
    let next : id_at g (place_in d) ≡ get_or (ids_at g ns) i (id_at g (place_in d)) = ap (λ k. id_at g (place_in k)) item ∙ id-of-item g g refl ns i d below in
    subst (λ l. Adding h id xs l (i + 1)) (sym (is ∙ ap (λ z. all_visited h (ids_at g ns) (parents_in (entry_at h z))) next))
    (adding_next h id xs (ids_at g ns) i (id_at g (place_in d)) at (omega arith))

-- what is closed holds the ancestors of its members
pub closed_ancestor : (h : History) (xs : List ObjectId) → AreClosed h xs → (o : ObjectId) → IsTrue (is_one_of xs o) → (c : ObjectId) → IsAncestor h o c → IsTrue (is_one_of xs c)
closed_ancestor h xs at o m c (itself has) = m
closed_ancestor h xs at o m c (further b c' p e) = at.closed b c (closed_ancestor h xs at o m b p) e

-- what follows xs in a list without repetition is not in xs
each-member : (P : ObjectId → Type 0) (xs : List ObjectId) → AllByRecursion P xs → (c : ObjectId) → IsTrue (is_one_of xs c) → P c
each-member P [] all c m = cc
each-member P (x ∷ xs) all c m = elim (one_of-cons_cases x xs c m) as (λ _. P c) [ inl is ↦ subst P (sym is) all.0 | inr k ↦ each-member P xs all.1 c k ]

pub apart : (xs more : List ObjectId) → IsDistinct same_id (xs ++ more) → (c : ObjectId) → IsTrue (is_one_of more c) → ¬ IsTrue (is_one_of xs c)
apart [] more once c m k = cc
apart (x ∷ xs) more once c m k =
    elim (one_of-cons_cases x xs c k) as (λ _. ⊥) [
      | inl is ↦ let differ = each-member (λ y. same_id x y ≡ false) (xs ++ more) (IsDistinct-head same_id x (xs ++ more) once) c (one_of-right xs more c m) in
          true≢false (sym (same_id-equal x c (sym is)) ∙ differ)
      | inr r ↦ apart xs more (IsDistinct-tail same_id x (xs ++ more) once) c m r
    ]

pub adding_ends : (h : History) (id : ObjectId) (xs ys : List ObjectId) (i : ℕ) → AreClosed h xs → Adding h id xs ys i → take i ys ≡ ys
    → AreClosed h ys × Adds h (id ∷ []) xs ys
adding_ends h id xs ys i at w all = (
  record {
    once = w.walked.once;
    has = w.walked.has;
    closed = λ a b m e. w.walked.closed a b (subst (λ l. IsTrue (is_one_of l a)) (sym all) m) e;
  },
  (w.more, w.is, λ c. ((λ m. (from c m, apart xs w.more (subst (IsDistinct same_id) w.is w.walked.once) c m)), (λ k. to c k.0 k.1))),
)
  where
    ends : (c : ObjectId) → IsTrue (is_one_of ys c) ↔ IsAncestorOfOne h (xs ++ id ∷ []) c
    ends = walk_ends h (xs ++ id ∷ []) ys i w.walked all

    from : (c : ObjectId) → IsTrue (is_one_of w.more c) → IsAncestorOfOne h (id ∷ []) c
    from c m =
        let k = (ends c).0 (subst (λ l. IsTrue (is_one_of l c)) (sym w.is) (one_of-right xs w.more c m)) in
        elim (one_of-cases xs (id ∷ []) k.0 k.1) as (λ _. IsAncestorOfOne h (id ∷ []) c) [
          | inl in_xs ↦ absurd (apart xs w.more (subst (IsDistinct same_id) w.is w.walked.once) c m (closed_ancestor h xs at k.0 in_xs c k.2))
          | inr is ↦ (k.0, is, k.2)
        ]

    to : (c : ObjectId) → IsAncestorOfOne h (id ∷ []) c → (¬ IsTrue (is_one_of xs c)) → IsTrue (is_one_of w.more c)
    to c k out =
        elim (one_of-cases xs w.more c (subst (λ l. IsTrue (is_one_of l c)) w.is ((ends c).1 (k.0, one_of-right xs (id ∷ []) k.0 k.1, k.2)))) as (λ _. IsTrue (is_one_of w.more c)) [
          | inl in_xs ↦ absurd (out in_xs)
          | inr m ↦ m
        ]

-- the ancestors of more starts, one after another
pub adds_none : (h : History) (xs : List ObjectId) → Adds h [] xs xs
adds_none h xs = ([], sym (append-nil xs), λ c. ((λ m. cc), (λ k. cc)))

pub adds_next : (h : History) (starts xs ys zs : List ObjectId) (i : ℕ) (d : ObjectId) → i < length starts → Adds h (take i starts) xs ys → Adds h (get_or starts i d ∷ []) ys zs → Adds h (take (i + 1) starts) xs zs
adds_next h starts xs ys zs i d below old new = subst (λ l. Adds h l xs zs) (sym (take_next starts i d below)) (
  old.0 ++ new.0,
  new.1 ∙ ap (λ l. l ++ new.0) old.1 ∙ append_assoc xs old.0 new.0,
  λ c. ((λ m. from c m), (λ k. to c k.0 k.1)),
)
  where
    both : List ObjectId
    both = take i starts ++ get_or starts i d ∷ []

    more_starts : (c : ObjectId) → IsAncestorOfOne h (take i starts) c → IsAncestorOfOne h both c
    more_starts c k = (k.0, one_of-left (take i starts) (get_or starts i d ∷ []) k.0 k.1, k.2)

    in_ys : (c : ObjectId) → IsTrue (is_one_of xs c) → IsTrue (is_one_of ys c)
    in_ys c k = subst (λ l. IsTrue (is_one_of l c)) (sym old.1) (one_of-left xs old.0 c k)

    from : (c : ObjectId) → IsTrue (is_one_of (old.0 ++ new.0) c) → IsAncestorOfOne h both c × (¬ IsTrue (is_one_of xs c))
    from c m = elim (one_of-cases old.0 new.0 c m) as (λ _. IsAncestorOfOne h both c × (¬ IsTrue (is_one_of xs c))) [
      | inl k ↦ let a = (old.2 c).0 k in (more_starts c a.0, a.1)
      | inr k ↦ let a = (new.2 c).0 k in ((a.0.0, one_of-right (take i starts) (get_or starts i d ∷ []) a.0.0 a.0.1, a.0.2), λ x. a.1 (in_ys c x))
    ]

    to : (c : ObjectId) → IsAncestorOfOne h both c → (¬ IsTrue (is_one_of xs c)) → IsTrue (is_one_of (old.0 ++ new.0) c)
    to c k out =
        elim (one_of-cases (take i starts) (get_or starts i d ∷ []) k.0 k.1) as (λ _. IsTrue (is_one_of (old.0 ++ new.0) c)) [
          | inl m ↦ one_of-left old.0 new.0 c ((old.2 c).1 ((k.0, m, k.2), out))
          | inr m ↦ elim (is_one_of ys c) as (λ b. is_one_of ys c ≡ b → IsTrue (is_one_of (old.0 ++ new.0) c)) [
            | true ↦ λ there. elim (one_of-cases xs old.0 c (subst (λ l. IsTrue (is_one_of l c)) old.1 there)) as (λ _. IsTrue (is_one_of (old.0 ++ new.0) c)) [
              | inl x ↦ absurd (out x)
              | inr x ↦ one_of-left old.0 new.0 c x
            ]
            | false ↦ λ lacks. one_of-right old.0 new.0 c ((new.2 c).1 ((k.0, m, k.2), λ there. true≢false (sym there ∙ lacks)))
          ] refl
        ]

-- the ids of the first numbers, and of one more
pub ids-step : {S T : Type 0} (g : Graphed S T) (ns : List Number) (i : ℕ) (d : Number) → i < length ns → (xs ys : List ObjectId) (id : ObjectId) → xs ≡ take i (ids_at g ns)
    → named g (place_in (get_or ns i d)) ≡ Some id → ys ≡ xs ++ id ∷ [] → ys ≡ take (i + 1) (ids_at g ns)
ids-step g ns i d below xs ys id old is new =
    let len = length-map ns (λ (k : Number). id_at g (place_in k)) in
    let here : id ≡ id_at g (place_in (get_or ns i d)) = sym (ap (λ o. unwrap_or o (record { 0 = [] })) is) in
    new ∙ ap (λ z. xs ++ z ∷ []) (here ∙ id-of-item g g refl ns i d below) ∙ ap (λ l. l ++ get_or (ids_at g ns) i (id_at g (place_in d)) ∷ []) old
    ∙ sym (take_next (ids_at g ns) i (id_at g (place_in d)) (omega arith))

pub closed_none : (h : History) → AreClosed h []
closed_none h = record { once = nothing; has = λ q m. cc; closed = λ a b m e. cc }

-- what was added last is what the shown ones reach and the hidden ones do not
pub lists_beyond : (h : History) (hidden shown xs ys : List ObjectId) → Adds h hidden [] xs → Adds h shown xs ys → AreClosed h ys
    → Lists (drop (length xs) ys) (λ c. IsAncestorOfOne h shown c × (¬ IsAncestorOfOne h hidden c))
lists_beyond h hidden shown xs ys first second at =
    let is : drop (length xs) ys ≡ second.0 = ap (drop (length xs)) second.1 ∙ drop_append xs second.0 in
    rw is (distinct_behind xs second.0 (subst (IsDistinct same_id) second.1 at.once), λ c. ((λ m. from c m), (λ k. (second.2 c).1 (k.0, λ there. k.1 (hides c there)))))
  where
    hides : (c : ObjectId) → IsTrue (is_one_of xs c) → IsAncestorOfOne h hidden c
    hides c there = ((first.2 c).0 (subst (λ l. IsTrue (is_one_of l c)) first.1 there)).0

    from : (c : ObjectId) → IsTrue (is_one_of second.0 c) → IsAncestorOfOne h shown c × (¬ IsAncestorOfOne h hidden c)
    from c m = let k = (second.2 c).0 m in (k.0, λ under. k.1 (subst (λ l. IsTrue (is_one_of l c)) (sym first.1) ((first.2 c).1 (under, λ no. cc))))

    drop_append : (xs more : List ObjectId) → drop (length xs) (xs ++ more) ≡ more
    drop_append [] more = refl
    drop_append (x ∷ xs) more = drop_append xs more

    distinct_behind : (xs more : List ObjectId) → IsDistinct same_id (xs ++ more) → IsDistinct same_id more
    distinct_behind [] more once = once
    distinct_behind (x ∷ xs) more once = distinct_behind xs more (IsDistinct-tail same_id x (xs ++ more) once)

-- the numbers after a place
in_behind : {S T : Type 0} (g : Graphed S T) (k : ℕ) (ns : List Number) → AreIn g ns → AreIn g (drop k ns)
in_behind g zero ns all = all
in_behind g (suc k) [] all = tt
in_behind g (suc k) (x ∷ ns) all = in_behind g k ns all.1

pub just_behind : {S T : Type 0} (g : Graphed S T) (P : ObjectId → Type 0) (ns read copy : List Number) (k : ℕ) → read ≡ ns → copy ≡ take (length read - k) (drop k read) → AreIn g ns → Lists (drop k (ids_at g ns)) P
    → AreJust g copy P
just_behind g P ns read copy k same copied inside lists =
    let all : copy ≡ drop k ns = copied ∙ take_all (length read - k) (drop k read) (omega (arith, length-drop k read)) ∙ ap (drop k) same in
    subst (λ l. AreJust g l P) (sym all) (in_behind g k ns inside, subst (λ l. Lists l P) (drop-map (λ (x : Number). id_at g (place_in x)) k ns) lists)

-- as many of the ids as there are numbers are all of them
pub all-taken : {S T : Type 0} (g : Graphed S T) (ns : List Number) (i : ℕ) → length ns ≤ i → take i (ids_at g ns) ≡ ids_at g ns
all-taken g ns i le = take_all i (ids_at g ns) (omega (arith, length-map ns (λ (k : Number). id_at g (place_in k))))
