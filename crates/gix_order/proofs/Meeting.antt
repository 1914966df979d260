-- What a walk keeps when it meets commits.
use Rattle.std.proofs.Common.{◌≡◌, ◌≢◌, ℕ, ◌+◌, ◌-◌, ◌<◌, ◌≤◌, ◌==◌, ◌&&◌, not, false, cond, IsTrue, List, [], ◌∷◌, ◌++◌, length, get_or, set, take, IsPermutation, sum_by, slice_index, refl, sym, ap, subst, ◌∙◌, inl, inr, arith, length-set, append_assoc, append-nil, ne_eqb}
use Rattle.std.specs.List.{AllByRecursion}
use Rattle.std.proofs.lemmas.Bool.{cases_eq, cases_lt, cases_Bool}
use Rattle.std.proofs.lemmas.List.{get_or_default, get_or_past, get_or-set_other, length_push, take_more}
use Rattle.std.proofs.lemmas.List.Elements.{All-from_recursion, recursion_from_All}
use Rattle.std.proofs.lemmas.List.Sums.{sum_by-cons}
use Rattle.std.proofs.lemmas.List.Sorted.{All-permutation, sum_by-IsPermutation}
use Rattle.gix_order.specs.declared.front.Free.{Free}
use Rattle.gix_order.specs.declared.walk.Walk.{Walk}
use Rattle.gix_order.specs.Orders.{Listed, has, last_place}
use Rattle.gix_order.specs.Counts.{times_in}
use Rattle.gix_order.specs.Fronts.{entries, order_of, IsSound}
use Rattle.gix_order.specs.Walks.{need, IsRight, entries_of, AreWaiting, HasMet, CanMeet, Meets}
use Rattle.gix_order.proofs.Lists.{last_place_other, last_place_push, last_place_le}
use Rattle.gix_order.proofs.Times.{one_if, hit, miss, times_in-append, one_taken}

pub all_permuted : (P : Free → Type 0) (xs ys : List Free) → IsPermutation xs ys → AllByRecursion P xs → AllByRecursion P ys
all_permuted P xs ys h a = recursion_from_All P ys (All-permutation P xs ys h (All-from_recursion P xs a))

entries_sum : (es : List Free) (p : ℕ) → entries_of es p ≡ sum_by (λ (e : Free). one_if e.place p) es
entries_sum [] p = refl
entries_sum (e ∷ es) p = omega (arith, sum_by-cons (λ (f : Free). one_if f.place p) e es, entries_sum es p)

pub entries_permuted : (xs ys : List Free) (p : ℕ) → IsPermutation xs ys → entries_of ys p ≡ entries_of xs p
entries_permuted xs ys p h =
    entries_sum ys p ∙ sum_by-IsPermutation (λ (e : Free). one_if e.place p) xs ys h ∙ sym (entries_sum xs p)

-- a commit that is not among the entries is met
right_kept : (l : Listed) (ms : List ℕ) (x : ℕ) (es : List Free) → entries_of es x ≡ 0 → AllByRecursion (IsRight l ms) es → AllByRecursion (IsRight l (ms ++ x ∷ [])) es
right_kept l ms x [] z h = tt
right_kept l ms x (e ∷ es) z h =
    let other : x ≡ e.place → ⊥ = λ q. let one = hit e.place x (sym q) in absurd (omega arith) in
    (record { since = h.0.since ∙ sym (last_place_other ms x e.place other); time = h.0.time }, right_kept l ms x es (omega arith) h.1)

none_here : (l : Listed) (needs : ℕ → ℕ) (shown ms : List ℕ) (es : List Free) (x : ℕ) → AreWaiting l needs shown ms es → needs x ≢ 0 → entries_of es x ≡ 0
none_here l needs shown ms es x w n = rw (ne_eqb (needs x) 0 n) at (w.once x)

done_kept : (l : Listed) (needs needs' : ℕ → ℕ) (shown ms : List ℕ) (es : List Free) (x : ℕ) → AreWaiting l needs shown ms es → needs x ≢ 0
    → ((p : ℕ) → (x ≡ p → ⊥) → needs' p ≡ needs p) → (p : ℕ) → IsTrue (has shown p) → needs' p ≡ 0
done_kept l needs needs' shown ms es x w n others p h =
    others p (λ e. n (ap needs e ∙ w.done p h)) ∙ w.done p h

met_again : (l : Listed) (needs needs' : ℕ → ℕ) (shown ms : List ℕ) (es : List Free) (x : ℕ) → AreWaiting l needs shown ms es → needs x ≢ 0
    → ((p : ℕ) → (x ≡ p → ⊥) → needs' p ≡ needs p) → needs' x ≢ 0 → AreWaiting l needs' shown (ms ++ x ∷ []) es
met_again l needs needs' shown ms es x w n others n' =
    let zero' = none_here l needs shown ms es x w n in
    record {
      right = right_kept l ms x es zero' w.right;
      once = λ p. elim (cases_eq x p) [
        | inl e ↦ let P : ℕ → Type 0 = λ q. entries_of es q ≡ cond ((needs' q == 0) && not (has shown q)) 1 0 in subst P e (rw (ne_eqb (needs' x) 0 n') zero')
        | inr d ↦ rw (others p d) (w.once p)
      ];
      done = done_kept l needs needs' shown ms es x w n others;
    }

met_last : (l : Listed) (needs needs' : ℕ → ℕ) (shown ms : List ℕ) (es es' : List Free) (x : ℕ) (f : Free) → AreWaiting l needs shown ms es → needs x ≢ 0
    → ((p : ℕ) → (x ≡ p → ⊥) → needs' p ≡ needs p) → needs' x ≡ 0
    → f.place ≡ x → f.since.0 ≡ length ms → f.time ≡ l.time x → IsPermutation (f ∷ es) es' → AreWaiting l needs' shown (ms ++ x ∷ []) es'
met_last l needs needs' shown ms es es' x f w n others n' place since time perm =
    let zero' = none_here l needs shown ms es x w n in
    let new : IsRight l (ms ++ x ∷ []) f = record {
      since = since ∙ sym (last_place_push ms x) ∙ ap (last_place (ms ++ x ∷ [])) (sym place);
      time = time ∙ ap l.time (sym place);
    } in
    record {
      right = all_permuted (IsRight l (ms ++ x ∷ [])) (f ∷ es) es' perm (new, right_kept l ms x es zero' w.right);
      once = λ p.
          let all = entries_permuted (f ∷ es) es' p perm in
          elim (cases_eq x p) [
            | inl e ↦
                let one = hit f.place p (place ∙ e) in
                let none : entries_of es p ≡ 0 = ap (entries_of es) (sym e) ∙ zero' in
                let open' : needs' p ≡ 0 = ap needs' (sym e) ∙ n' in
                let unshown : has shown p ≡ false = elim (cases_Bool (has shown p)) [ inl t ↦ absurd (n (ap needs e ∙ w.done p t)) | inr u ↦ u ] in
                rw (open', unshown) (omega arith)
            | inr d ↦
                let zero'' = miss f.place p (λ q. d (sym place ∙ q)) in
                rw (others p d, ← w.once p) (omega arith)
          ];
      done = done_kept l needs needs' shown ms es x w n others;
    }

below : (l : Listed) (ms : List ℕ) (es : List Free) (n : ℕ) → n ≡ length ms → AllByRecursion (IsRight l ms) es → AllByRecursion (λ (e : Free). e.since.0 ≤ n) es
below l ms [] n e h = tt
below l ms (x ∷ es) n e h =
    let under = last_place_le ms x.place in
    let at = h.0.since in
    (omega arith, below l ms es n e h.1)

-- what is left after one is taken from the count of x
taken_others : (w v : Walk) (x : ℕ) → v.left.items ≡ set w.left.items x (slice_index w.left.items x - 1) → (p : ℕ) → (x ≡ p → ⊥) → need v p ≡ need w p
taken_others w v x e p d = rw e (get_or-set_other w.left.items x p _ 1 (λ q. d (sym q)))

needed : (w : Walk) (x : ℕ) → CanMeet w (x ∷ []) → need w x ≢ 0
needed w x can = λ z.
    elim (cases_lt x (length w.left.items)) [
      | inl h ↦
          let least = can x h in
          let one = hit x x refl in
          let same = get_or_default w.left.items x 1 0 h in
          absurd (omega arith)
      | inr h ↦ let past = get_or_past w.left.items x 1 h in absurd (omega arith)
    ]

one_left : (w v : Walk) (x : ℕ) → v.left.items ≡ set w.left.items x (slice_index w.left.items x - 1) → (p : ℕ) → p < length w.left.items → slice_index v.left.items p ≡ slice_index w.left.items p - times_in (x ∷ []) p
one_left w v x e p h = rw e (one_taken w.left.items p x h)

-- the walk v has met x, which is met again or past the end
pub meets_again : (l : Listed) (w v : Walk) (x : ℕ) → v.left.items ≡ set w.left.items x (slice_index w.left.items x - 1) → v.front ≡ w.front → v.met ≡ w.met + 1
    → v.shown.items ≡ w.shown.items → need v x ≢ 0 → Meets l (x ∷ []) w v
meets_again l w v x left front number same n' = record {
  met = λ order ms h can. record {
    waiting =
        let kept = met_again l (need w) (need v) w.shown.items ms (entries w.front) x h.waiting (needed w x can) (taken_others w v x left) n' in
        subst (λ es. AreWaiting l (need v) v.shown.items (ms ++ x ∷ []) es) (ap entries (sym front)) (subst (λ shown. AreWaiting l (need v) shown (ms ++ x ∷ []) (entries w.front)) (sym same) kept);
    number = let len = length_push ms x in let before = h.number in omega arith;
    sound = rw front h.sound;
    kept = rw front h.kept;
  };
  left = one_left w v x left;
  len = ap (λ (z : List ℕ). length z) left ∙ length-set w.left.items x _;
  same = same;
}

-- the walk v has met x, which is free now
pub meets_last : (l : Listed) (w v : Walk) (x : ℕ) (f : Free) → v.left.items ≡ set w.left.items x (slice_index w.left.items x - 1) → v.met ≡ w.met + 1
    → v.shown.items ≡ w.shown.items → need v x ≡ 0 → f.place ≡ x → f.since.0 ≡ w.met → f.time ≡ l.time x
    → IsPermutation (f ∷ entries w.front) (entries v.front) → order_of v.front ≡ order_of w.front
    → (IsSound w.front → AllByRecursion (λ (e : Free). e.since.0 ≤ f.since.0) (entries w.front) → IsSound v.front) → Meets l (x ∷ []) w v
meets_last l w v x f left number same n' place since time perm kept sound = record {
  met = λ order ms h can. record {
    waiting =
        let new = met_last l (need w) (need v) w.shown.items ms (entries w.front) (entries v.front) x f h.waiting (needed w x can) (taken_others w v x left) n' place (since ∙ h.number) time perm in
        subst (λ shown. AreWaiting l (need v) shown (ms ++ x ∷ []) (entries v.front)) (sym same) new;
    number = let len = length_push ms x in let before = h.number in omega arith;
    sound = sound h.sound (below l ms (entries w.front) f.since.0 (since ∙ h.number) h.waiting.right);
    kept = kept ∙ h.kept;
  };
  left = one_left w v x left;
  len = ap (λ (z : List ℕ). length z) left ∙ length-set w.left.items x _;
  same = same;
}

pub meets_none : (l : Listed) (w : Walk) → Meets l [] w w
meets_none l w = record {
  met = λ order ms h can. subst (λ z. HasMet order l z w) (sym (append-nil ms)) h;
  left = λ p h. omega arith;
  len = refl;
  same = refl;
}

-- one commit more of a list is met
pub meets_more : (l : Listed) (list : List ℕ) (i x : ℕ) (w v u : Walk) → i < length list → x ≡ get_or list i 0 → Meets l (take i list) w v → Meets l (x ∷ []) v u → Meets l (take (i + 1) list) w u
meets_more l list i x w v u h at before one =
    let xs = take i list in
    let all : take (i + 1) list ≡ xs ++ x ∷ [] = take_more list i 0 h ∙ ap (λ y. xs ++ y ∷ []) (sym at) in
    let joined : Meets l (xs ++ x ∷ []) w u = record {
      met = λ order ms m can.
          let first : CanMeet w xs = λ p k. let both = times_in-append xs (x ∷ []) p in let most = can p k in omega arith in
          let then : CanMeet v (x ∷ []) = λ p k.
          let both = times_in-append xs (x ∷ []) p in
          let most = can p (omega (arith, before.len)) in
          let left = before.left p (omega (arith, before.len)) in
          omega arith in
          subst (λ z. HasMet order l z u) (append_assoc ms xs (x ∷ [])) (one.met order (ms ++ xs) (before.met order ms m first) then);
      left = λ p k.
          let both = times_in-append xs (x ∷ []) p in
          let left = before.left p k in
          let last = one.left p (omega (arith, before.len)) in
          omega arith;
      len = one.len ∙ before.len;
      same = one.same ∙ before.same;
    } in
    subst (λ z. Meets l z w u) (sym all) joined
