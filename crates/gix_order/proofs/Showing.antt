-- What a walk keeps when it shows commits.
use Rattle.std.proofs.Common.{◌≡◌, ◌≢◌, ℕ, ◌+◌, ◌-◌, ◌<◌, ◌≤◌, ◌==◌, ◌&&◌, not, Bool, true, false, cond, List, [], ◌∷◌, ◌++◌, length, get_or, IsPermutation, slice_index, refl, sym, ap, subst, ◌∙◌, inl, inr, arith, append-nil, ne_eqb, eqb-true}
use Rattle.std.specs.List.{AllByRecursion}
use Rattle.std.proofs.lemmas.Bool.{cases_eq, cases_lt, cases_Bool, both_ways, false≢true, and_parts, not-true}
use Rattle.std.proofs.lemmas.List.{get_or_default, get_or_past, flat_map_more}
use Rattle.gix_order.specs.declared.commits.Order.{Order}
use Rattle.gix_order.specs.declared.commits.Order.TheVariants.{Dated, Topological}
use Rattle.gix_order.specs.declared.front.Free.{Free}
use Rattle.gix_order.specs.declared.walk.Walk.{Walk}
use Rattle.gix_order.specs.Orders.{Listed, has, places, met, IsFree, Waits, IsNoLater, ComesNext, GoesOn, ended, next}
use Rattle.gix_order.specs.Counts.{times_in, open_links}
use Rattle.gix_order.specs.Fronts.{entries, order_of, IsSound, IsAhead}
use Rattle.gix_order.specs.Walks.{need, IsRight, entries_of, AreWaiting, HasMet, CanMeet, Meets, IsBetween, ShowsNext, ShowsNone}
use Rattle.gix_order.proofs.Lists.{has_other, has_last}
use Rattle.gix_order.proofs.Times.{hit, miss, times_some, times_none, times_in-places, sum_over_shown, sum_over_none, sum_over_each}
use Rattle.gix_order.proofs.Meeting.{all_permuted, entries_permuted}

-- a commit that is met no more has all its children shown
free_from_need : (order : Order) (l : Listed) (w : Walk) (p : ℕ) → IsBetween order l w → need w p ≡ 0 → IsFree l w.shown.items p
free_from_need order l w p b z =
    let in' : p < length w.left.items = elim (cases_lt p (length w.left.items)) [ inl h ↦ h | inr h ↦ let past = get_or_past w.left.items p 1 h in absurd (omega arith) ] in
    let here : p < l.count = let len = b.len in omega arith in
    let none : open_links l w.shown.items p ≡ 0 = let same = get_or_default w.left.items p 1 0 in' in let links = b.links p here in omega arith in (
      here,
      λ c child. elim (cases_Bool (has w.shown.items c)) [
        | inl t ↦ t
        | inr u ↦
            let each = sum_over_each l.count w.shown.items (λ k. times_in (l.parents k) p) c none child.0 u in
            let some = times_some (l.parents c) p child.1 in
            absurd (omega arith)
      ],
    )

need_from_free : (order : Order) (l : Listed) (w : Walk) (p : ℕ) → IsBetween order l w → IsFree l w.shown.items p → need w p ≡ 0
need_from_free order l w p b f =
    let none : open_links l w.shown.items p ≡ 0 = sum_over_none l.count w.shown.items (λ k. times_in (l.parents k) p) (λ k h u. elim (cases_Bool (has (l.parents k) p)) [
      | inl t ↦ absurd (both_ways (has w.shown.items k) u (f.1 k (h, t)))
      | inr n ↦ times_none (l.parents k) p n
    ]) in
    let len = b.len in
    let same = get_or_default w.left.items p 1 0 (omega (arith, f.0)) in
    let links = b.links p f.0 in
    omega arith

waits_once : (order : Order) (l : Listed) (w : Walk) (p : ℕ) → IsBetween order l w → Waits l w.shown.items p → entries_of (entries w.front) p ≡ 1
waits_once order l w p b h =
    let zero' = need_from_free order l w p b h.0 in
    let unshown' : has w.shown.items p ≡ false = elim (cases_Bool (has w.shown.items p)) [ inl t ↦ absurd (h.1 t) | inr u ↦ u ] in
    rw (zero', unshown') at (b.now.waiting.once p)

pub none_waits : (order : Order) (l : Listed) (w v : Walk) → IsBetween order l w → entries w.front ≡ [] → v.shown.items ≡ w.shown.items → ShowsNone order l w v
none_waits order l w v b none same = record {
  same = same;
  ends = b.goes w.shown.items (ended w.shown.items (λ p h.
      let once = waits_once order l w p b h in
      let zero' : entries_of (entries w.front) p ≡ 0 = ap (λ es. entries_of es p) none in
      absurd (omega arith)));
}

cond_one : (b : Bool) → 1 ≤ cond b 1 0 → b ≡ true
cond_one true h = refl
cond_one false h = absurd (omega arith)

-- an entry is of a commit that waits
entry_waits : (order : Order) (l : Listed) (w : Walk) (p : ℕ) → IsBetween order l w → 1 ≤ entries_of (entries w.front) p → (need w p ≡ 0) × (has w.shown.items p ≡ false)
entry_waits order l w p b h =
    let both = and_parts (need w p == 0) (not (has w.shown.items p)) (cond_one ((need w p == 0) && not (has w.shown.items p)) (rw (b.now.waiting.once p) at h)) in
    (eqb-true (need w p) 0 both.0, not-true (has w.shown.items p) both.1)

first_of : (order : Order) (l : Listed) (ms : List ℕ) (f e : Free) → IsRight l ms f → IsRight l ms e → IsAhead order f e → IsNoLater order l ms f.place e.place
first_of Dated l ms f e rf re (inl h) = inl (rw (← rf.time, ← re.time) h)
first_of Dated l ms f e rf re (inr h) = inr (sym re.time ∙ h.0 ∙ rf.time, let a = rf.since in let b = re.since in let c = h.1 in omega arith)
first_of Topological l ms f e rf re h = let a = rf.since in let b = re.since in omega arith

-- the first comes no later than any commit with an entry
first_of_all : (order : Order) (l : Listed) (ms : List ℕ) (f : Free) (es : List Free) (d : ℕ) → IsRight l ms f → AllByRecursion (IsRight l ms) es → AllByRecursion (IsAhead order f) es → 1 ≤ entries_of es d → IsNoLater order l ms f.place d
first_of_all order l ms f [] d rf rs hs n = absurd (omega arith)
first_of_all order l ms f (e ∷ es) d rf rs hs n =
    elim (cases_eq e.place d) [
      | inl q ↦ subst (λ k. IsNoLater order l ms f.place k) q (first_of order l ms f e rf rs.0 hs.0)
      | inr k ↦ let none = miss e.place d k in first_of_all order l ms f es d rf rs.1 hs.1 (omega arith)
    ]

-- the entry that leaves the front is of the commit that comes next
comes_next : (order : Order) (l : Listed) (w : Walk) (f : Free) (es : List Free) → IsBetween order l w → IsPermutation (entries w.front) (f ∷ es)
    → AllByRecursion (IsAhead (order_of w.front) f) (entries w.front) → ComesNext order l w.shown.items f.place
comes_next order l w f es b perm hs =
    let ms = met order l w.shown.items in
    let rights = all_permuted (IsRight l ms) (entries w.front) (f ∷ es) perm b.now.waiting.right in
    let all = entries_permuted (entries w.front) (f ∷ es) f.place perm in
    let one = hit f.place f.place refl in
    let here = entry_waits order l w f.place b (omega arith) in
    let ahead : AllByRecursion (IsAhead order f) (entries w.front) = subst (λ o. AllByRecursion (IsAhead o f) (entries w.front)) b.now.kept hs in (
      (free_from_need order l w f.place b here.0, λ t. both_ways (has w.shown.items f.place) here.1 t),
      λ d h. let once = waits_once order l w d b h in first_of_all order l ms f (entries w.front) d rights.0 b.now.waiting.right ahead (omega arith),
    )

-- what is left of the entries
entry_left : (order : Order) (l : Listed) (w : Walk) (f : Free) (es : List Free) → IsBetween order l w → IsPermutation (entries w.front) (f ∷ es)
    → AreWaiting l (need w) (w.shown.items ++ f.place ∷ []) (met order l w.shown.items) es
entry_left order l w f es b perm =
    let ms = met order l w.shown.items in
    let c = f.place in
    let shown = w.shown.items in
    let all : (p : ℕ) → entries_of (f ∷ es) p ≡ entries_of (entries w.front) p = λ p. entries_permuted (entries w.front) (f ∷ es) p perm in
    let one = hit c c refl in
    let here = entry_waits order l w c b (let at = all c in omega arith) in
    let once' : entries_of (entries w.front) c ≡ 1 = rw (here.0, here.1) at (b.now.waiting.once c) in
    record {
      right = (all_permuted (IsRight l ms) (entries w.front) (f ∷ es) perm b.now.waiting.right).1;
      once = λ p. elim (cases_eq c p) [
        | inl e ↦
            let P : ℕ → Type 0 = λ q. entries_of es q ≡ cond ((need w q == 0) && not (has (shown ++ c ∷ []) q)) 1 0 in
            subst P e (rw (here.0, has_last shown c) (let at = all c in omega arith))
        | inr d ↦
            let at = all p in
            let none = miss c p d in
            rw (has_other shown c p d, ← b.now.waiting.once p) (omega arith)
      ];
      done = λ p h. elim (cases_eq c p) [
        | inl e ↦ ap (need w) (sym e) ∙ here.0
        | inr d ↦ b.now.waiting.done p (sym (has_other shown c p d) ∙ h)
      ];
    }

-- the walk w takes the entry f out, which gives u, and v has then met the parents of its commit
pub shows_next : (order : Order) (l : Listed) (w u v : Walk) (f : Free) (list : List ℕ) → IsBetween order l w → IsPermutation (entries w.front) (f ∷ entries u.front)
    → (IsSound w.front → AllByRecursion (IsAhead (order_of w.front) f) (entries w.front)) → order_of u.front ≡ order_of w.front → (IsSound w.front → IsSound u.front)
    → u.left ≡ w.left → u.met ≡ w.met → u.shown.items ≡ w.shown.items ++ f.place ∷ [] → list ≡ l.parents f.place → Meets l list u v → ShowsNext order l w v
shows_next order l w u v f list b perm ahead kept sound left number same named meets =
    let c = f.place in
    let shown = w.shown.items in
    let ms = met order l shown in
    let comes = comes_next order l w f (entries u.front) b perm (ahead b.now.sound) in
    let unshown' : has shown c ≡ false = elim (cases_Bool (has shown c)) [ inl t ↦ absurd (comes.0.1 t) | inr k ↦ k ] in
    let lefts : u.left.items ≡ w.left.items = ap (λ z. z.items) left in
    let len = b.len in
    let links : (p : ℕ) → p < l.count → slice_index w.left.items p ≡ open_links l (shown ++ c ∷ []) p + times_in list p = λ p h.
    let sum = sum_over_shown l.count shown (λ k. times_in (l.parents k) p) c comes.0.0.0 unshown' in
    let part : times_in list p ≡ times_in (l.parents c) p = ap (λ (z : List ℕ). times_in z p) named in
    let now = b.links p h in
    omega arith in
    let waiting : AreWaiting l (need u) u.shown.items ms (entries u.front) =
    subst (λ z. AreWaiting l (λ p. get_or z p 1) u.shown.items ms (entries u.front)) (sym lefts)
    (subst (λ z. AreWaiting l (need w) z ms (entries u.front)) (sym same) (entry_left order l w f (entries u.front) b perm)) in
    let hasmet : HasMet order l ms u = record { waiting = waiting; number = number ∙ b.now.number; sound = sound b.now.sound; kept = kept ∙ b.now.kept } in
    let can : CanMeet u list = λ p h. rw lefts (let k : p < length w.left.items = rw lefts at h in let now = links p (omega arith) in omega arith) in
    let new = meets.met order ms hasmet can in
    let shows : v.shown.items ≡ shown ++ c ∷ [] = meets.same ∙ same in
    let all : ms ++ list ≡ met order l v.shown.items =
    ap (λ z. ms ++ z) named ∙ flat_map_more l.parents (places order l.count) shown c ∙ ap (met order l) (sym shows) in
    record {
      stands = record {
        now = subst (λ z. HasMet order l z v) all new;
        len = meets.len ∙ ap (λ (z : List ℕ). length z) lefts ∙ len;
        links = λ p h.
            let now = links p h in
            let k : p < length u.left.items = rw lefts (omega arith) in
            let after : slice_index v.left.items p ≡ slice_index w.left.items p - times_in list p = rw lefts at (meets.left p k) in
            rw shows (omega arith);
        goes = λ zs g. b.goes zs (next shown zs c comes (subst (λ z. GoesOn order l z zs) shows g));
      };
      nearer = rw shows (let sum = sum_over_shown l.count shown (λ k. 1) c comes.0.0.0 unshown' in omega arith);
    }

needs_all : (left : List ℕ) (n : ℕ) (k : ℕ → ℕ) → length left ≡ n → ((p : ℕ) → p < n → get_or left p 0 ≡ 1 + k p) → (p : ℕ) → get_or left p 1 ≢ 0
needs_all left n k len is p z =
    elim (cases_lt p (length left)) [
      | inl h ↦ let same = get_or_default left p 1 0 h in let at = is p (omega arith) in omega arith
      | inr h ↦ let past = get_or_past left p 1 h in omega arith
    ]

-- the walk w is new, and v has then met all commits of the list
pub begins : (order : Order) (l : Listed) (w v : Walk) → length w.left.items ≡ l.count → ((p : ℕ) → p < l.count → slice_index w.left.items p ≡ 1 + open_links l [] p)
    → entries w.front ≡ [] → order_of w.front ≡ order → IsSound w.front → w.met ≡ 0 → w.shown.items ≡ [] → Meets l (places order l.count) w v → IsBetween order l v
begins order l w v len links none kept sound number unshown' meets =
    let needs = needs_all w.left.items l.count (open_links l []) len links in
    let empty : AreWaiting l (need w) [] [] [] = record { right = tt; once = λ p. rw (ne_eqb (need w p) 0 (needs p)) refl; done = λ p h. absurd (false≢true h) } in
    let waiting : AreWaiting l (need w) w.shown.items [] (entries w.front) =
    subst (λ z. AreWaiting l (need w) w.shown.items [] z) (sym none) (subst (λ z. AreWaiting l (need w) z [] []) (sym unshown') empty) in
    let hasmet : HasMet order l [] w = record { waiting = waiting; number = number; sound = sound; kept = kept } in
    let once : (p : ℕ) → p < l.count → times_in (places order l.count) p ≡ 1 = λ p h. times_in-places order l.count p h in
    let can : CanMeet w (places order l.count) = λ p h. let at = links p (omega arith) in let one = once p (omega arith) in omega arith in
    let new = meets.met order [] hasmet can in
    let shows : v.shown.items ≡ [] = meets.same ∙ unshown' in
    let all : places order l.count ≡ met order l v.shown.items = sym (append-nil (places order l.count)) ∙ ap (met order l) (sym shows) in
    record {
      now = subst (λ z. HasMet order l z v) all new;
      len = meets.len ∙ len;
      links = λ p h.
          let after = meets.left p (omega arith) in
          let at = links p h in
          let one = once p h in
          rw shows (omega arith);
      goes = λ zs g. subst (λ z. GoesOn order l z zs) shows g;
    }
