-- The order of a walk lists the ancestors, and its late commits lie between the two counts.
use Rattle.std.proofs.Common.{◌≡◌, ℕ, true, false, cond, refl, ap, sym, subst, ◌∙◌, List, [], ◌∷◌, ◌++◌, ◌⊎◌, inl, inr, ◌<◌, ◌≤◌, ◌+◌, length, take, drop, arith}
use Rattle.std.specs.List.{IsDistinct}
use Rattle.std.proofs.lemmas.Map.Made.{length-le_from_is_member}
use Rattle.std.proofs.lemmas.List.{take_all, take-append-drop}
use Rattle.std.proofs.lemmas.Int.{ints}
use Rattle.std.specs.Prelude.{◌<ℤ◌}
use Rattle.gix_base.specs.declared.hash.ObjectId.{ObjectId}
use Rattle.gix_revwalk.specs.History.{History, entry_at, same_id, is_one_of, time_in, Has, IsEdge, IsAncestor}
use Rattle.gix_revwalk.specs.History.IsAncestor.{itself, further}
use Rattle.gix_revwalk.specs.Sizes.{Lists, HasSize}
use Rattle.gix_describe.specs.Ahead.{IsPath, IsOlder, IsFallingEdge, IsAheadOf, IsFalling}
use Rattle.gix_describe.specs.Ahead.IsPath.{stay, further as goes_on}
use Rattle.gix_describe.specs.Order.{Ranking, IsBefore, tie_rank, IsUnlisted, GoesOn, IsOrder, place, Reaches, IsLate}
use Rattle.gix_describe.specs.Order.GoesOn.{ended, next}
use Rattle.gix_revwalk.proofs.Ids.{same_id-laws, same_id-true, same_id-itself}
use Rattle.gix_revwalk.proofs.Members.{one_of-left, one_of-right, one_of-cases, one_of-single, one_of-head, one_of-tail, one_of-cons_cases}
use Rattle.gix_describe.proofs.Early.{In, either, Popped, Pops, pop, pop_falls, frontier, path_older, join}
use Rattle.gix_describe.proofs.EarlyEnds.{apart_le}
use Rattle.gix_revwalk.proofs.Ancestors.{anc-trans}

pub place_left : (xs ys : List ObjectId) (c : ObjectId) → In xs c → place (xs ++ ys) c ≡ place xs c
place_left [] ys c k = cc
place_left (x ∷ xs) ys c k = elim (same_id c x) as (λ b. same_id c x ≡ b → cond b 0 (place (xs ++ ys) c + 1) ≡ cond b 0 (place xs c + 1)) [
  | true ↦ λ e. refl
  | false ↦ λ e. ap (λ n. n + 1) (place_left xs ys c (elim (one_of-cons_cases x xs c k) as (λ _. In xs c) [ inl is ↦ absurd (let f : false ≡ true = sym e ∙ ap (same_id c) (sym is) ∙ same_id-itself c in cc) | inr r ↦ r ]))
] refl

pub place_below : (xs : List ObjectId) (c : ObjectId) → In xs c → place xs c < length xs
place_below [] c k = cc
place_below (x ∷ xs) c k = elim (same_id c x) as (λ b. same_id c x ≡ b → cond b 0 (place xs c + 1) < length (x ∷ xs)) [
  | true ↦ λ e. omega arith
  | false ↦ λ e. let r : place xs c < length xs = place_below xs c (elim (one_of-cons_cases x xs c k) as (λ _. In xs c) [ inl is ↦ absurd (let f : false ≡ true = sym e ∙ ap (same_id c) (sym is) ∙ same_id-itself c in cc) | inr r ↦ r ]) in omega arith
] refl

pub place_past : (xs ys : List ObjectId) (c : ObjectId) → (¬ In xs c) → length xs ≤ place (xs ++ ys) c
place_past [] ys c out = omega arith
place_past (x ∷ xs) ys c out = elim (same_id c x) as (λ b. same_id c x ≡ b → length (x ∷ xs) ≤ cond b 0 (place (xs ++ ys) c + 1)) [
  | true ↦ λ e. absurd (out (subst (λ z. In (z ∷ xs) c) (same_id-true c x e) (one_of-head c xs)))
  | false ↦ λ e. let r : length xs ≤ place (xs ++ ys) c = place_past xs ys c (λ k. out (one_of-tail x xs c k)) in omega arith
] refl

pub not_older : (r : ObjectId → ℕ) (h : History) (c d : ObjectId) → (d ≡ c) ⊎ IsBefore r h c d → ¬ IsOlder h c d
not_older r h c d (inl is) o = let p : IsOlder h c c = subst (λ z. IsOlder h c z) is o in omega (arith, ints)
not_older r h c d (inr (inl b)) o = omega (arith, ints)
not_older r h c d (inr (inr b)) o = let e : time_in (entry_at h c) ≡ time_in (entry_at h d) = b.0 in let p : time_in (entry_at h d) <ℤ time_in (entry_at h d) = subst (λ z. z <ℤ time_in (entry_at h d)) e o in omega (arith, ints)

-- the next commit of the order is popped
pops_next : (r : ObjectId → ℕ) (h : History) (xs : List ObjectId) (c : ObjectId) → IsUnlisted h xs c → ((d : ObjectId) → IsUnlisted h xs d → (d ≡ c) ⊎ IsBefore r h c d) → Pops h xs (IsUnlisted h xs) c (IsUnlisted h (xs ++ c ∷ []))
pops_next r h xs c u best = record {
  queued = u;
  greatest = λ q k. not_older r h c q (best q k);
  gone = λ k. k.0 (one_of-right xs (c ∷ []) c (one_of-head c []));
  fresh = λ d k m. k.0 (one_of-left xs (c ∷ []) d m);
  from = λ d k. elim (one_of-cases xs (c ∷ []) k.1 k.2) as (λ _. IsUnlisted h xs d ⊎ IsEdge h c d) [
    | inl l ↦ inl ((λ m. k.0 (one_of-left xs (c ∷ []) d m)), k.1, l, k.3)
    | inr r ↦ inr (subst (λ z. IsEdge h z d) (one_of-single c k.1 r) k.3)
  ];
  stays = λ d k. elim (either (xs ++ c ∷ []) d) as (λ _. IsUnlisted h (xs ++ c ∷ []) d ⊎ (d ≡ c)) [
    | inl m ↦ elim (one_of-cases xs (c ∷ []) d m) as (λ _. IsUnlisted h (xs ++ c ∷ []) d ⊎ (d ≡ c)) [ inl l ↦ absurd (k.0 l) | inr r ↦ inr (one_of-single c d r) ]
    | inr out ↦ inl (out, k.1, one_of-left xs (c ∷ []) k.1 k.2, k.3)
  ];
  gets = λ d e. elim (either (xs ++ c ∷ []) d) as (λ _. In (xs ++ c ∷ []) d ⊎ IsUnlisted h (xs ++ c ∷ []) d) [ inl m ↦ inl m | inr out ↦ inr (out, c, one_of-right xs (c ∷ []) c (one_of-head c []), e) ];
}

one_alone : (s : ObjectId) → IsDistinct same_id (s ∷ [])
unfolding IsDistinct
one_alone s = (tt, tt)

begins_popped : (h : History) (s : ObjectId) → Has h s → Popped h s (s ∷ []) (IsUnlisted h (s ∷ []))
begins_popped h s has = record {
  once = one_alone s;
  apart = λ c k u. u.0 k;
  sound = λ c m. elim m as (λ _. IsAncestor h s c) [
    | inl k ↦ subst (λ z. IsAncestor h s z) (sym (one_of-single s c k)) (itself has)
    | inr u ↦ further s c (itself has) (subst (λ z. IsEdge h z c) (one_of-single s u.1 u.2) u.3)
  ];
  begun = inl (one_of-head s []);
  closed = λ c b k e. elim (either (s ∷ []) b) as (λ _. In (s ∷ []) b ⊎ IsUnlisted h (s ∷ []) b) [ inl m ↦ inl m | inr out ↦ inr (out, c, k, e) ];
  falls = λ a b p e k. absurd (let o : IsOlder h s s = path_older h s a s p (subst (λ z. IsFallingEdge h a z) (one_of-single s b k) e) in omega (arith, ints));
}

-- falling edges rise
abbrev pub Rises : History → ObjectId → List ObjectId → Type 0
Rises h s xs = (a b : ObjectId) → IsPath (IsFallingEdge h) s a → IsFallingEdge h a b → In xs b → place xs a < place xs b

rises_next : (h : History) (s : ObjectId) (xs : List ObjectId) (c : ObjectId) → Popped h s xs (IsUnlisted h xs) → Pops h xs (IsUnlisted h xs) c (IsUnlisted h (xs ++ c ∷ [])) → Rises h s xs → Rises h s (xs ++ c ∷ [])
rises_next h s xs c at pops up a b p e k = elim (one_of-cases xs (c ∷ []) b k) as (λ _. place (xs ++ c ∷ []) a < place (xs ++ c ∷ []) b) [
  | inl l ↦ let a_in : In xs a = at.falls a b p e l in rw (place_left xs (c ∷ []) a a_in, place_left xs (c ∷ []) b l) (up a b p e l)
  | inr r ↦
      let is : b ≡ c = one_of-single c b r in
      let a_in : In xs a = pop_falls h s xs (IsUnlisted h xs) at c pops.queued pops.greatest a p (subst (λ z. IsFallingEdge h a z) is e) in
      let low : place xs a < length xs = place_below xs a a_in in
      let high : length xs ≤ place (xs ++ c ∷ []) b = place_past xs (c ∷ []) b (λ m. pops.queued.0 (subst (λ z. In xs z) is m)) in
      rw (place_left xs (c ∷ []) a a_in) (omega arith)
]

-- the order, once it has ended
pub record Walked (h : History) (s : ObjectId) (xs : List ObjectId) : Type 0 where
  pub popped : Popped h s xs (IsUnlisted h xs)
  pub rises : Rises h s xs
  pub all : (c : ObjectId) → ¬ IsUnlisted h xs c

order_from : (ranks : Ranking) (h : History) (s : ObjectId) (xs zs : List ObjectId) → GoesOn ranks h s xs zs → Popped h s xs (IsUnlisted h xs) → Rises h s xs → Walked h s zs
order_from ranks h s xs zs (ended xs' none) at up = record { popped = at; rises = up; all = none }
order_from ranks h s xs zs (next xs' zs' c u best rest) at up =
    let pops = pops_next (tie_rank ranks h s xs) h xs c u best in
    order_from ranks h s (xs ++ c ∷ []) zs rest (pop h s xs (IsUnlisted h xs) c (IsUnlisted h (xs ++ c ∷ [])) at pops) (rises_next h s xs c at pops up)

pub order_walked : (ranks : Ranking) (h : History) (s : ObjectId) (xs : List ObjectId) → Has h s → IsOrder ranks h s xs → Walked h s xs
order_walked ranks h s xs has order = order_from ranks h s (s ∷ []) xs order (begins_popped h s has)
    (λ a b p e k. absurd (let o : IsOlder h s s = path_older h s a s p (subst (λ z. IsFallingEdge h a z) (one_of-single s b k) e) in omega (arith, ints)))

module _ (h : History) (s : ObjectId) (xs : List ObjectId) (walked : Walked h s xs) where
  -- the order has each ancestor once
  pub order_lists : Lists xs (IsAncestor h s)
  order_lists = (walked.popped.once, λ c. ((λ m. walked.popped.sound c (inl m)), (λ a. elim (frontier h s xs (IsUnlisted h xs) walked.popped c a) as (λ _. In xs c) [ inl k ↦ k | inr q ↦ absurd (walked.all q.0 q.1) ])))

  reached : (t c : ObjectId) → IsAncestor h s t → Reaches h xs t c → IsAncestor h t c
  reached t c a stay = itself (last s t a)
    where
      last : (a c : ObjectId) → IsAncestor h a c → Has h c
      last a c (itself has) = has
      last a c (further b c' p e) = e.1
  reached t c a (goes_on b c' p e) = further b c (reached t b a p) e.0

  rising : (t c : ObjectId) → IsAncestor h s t → IsPath (IsFallingEdge h) s t → IsPath (IsFallingEdge h) t c → Reaches h xs t c
  rising t c a p stay = stay
  rising t c a p (goes_on b c' q e) =
      let r = rising t b a p q in
      let c_in : In xs c = (order_lists.1 c).1 (trans s t c a (further b c (reached t b a r) e.0)) in
      goes_on b c r (e.0, walked.rises b c (join h s t b p q) e c_in)
    where
      trans : (a b c : ObjectId) → IsAncestor h a b → IsAncestor h b c → IsAncestor h a c
      trans a b c p (itself has) = p
      trans a b c p (further x c' q e) = further x c (trans a b x p q) e

  module _ (t : ObjectId) (a : IsAncestor h s t) (depth : ℕ) (late : IsLate h xs t (length xs) depth) where
    whole : take (length xs) xs ≡ xs
    whole = take_all (length xs) xs (omega arith)

    -- the late ones of the whole order are no fewer than those out of t
    pub late_low : (n : ℕ) → HasSize (IsAheadOf h s t) n → n ≤ depth
    late_low n out =
        let le : length out.0 ≤ length late.0 = length-le_from_is_member same_id-laws out.0 late.0 out.1.0 (λ c m.
        let o = (out.1.1 c).0 m in (late.1.1 c).1 (ap (λ l. is_one_of l c) whole ∙ (order_lists.1 c).1 o.0, λ r. o.1 (reached t c a r))) in
        rw (← out.2, ← late.2) le

    -- and they are apart from the commits on falling paths through t
    pub late_high : (n f : ℕ) → HasSize (IsAncestor h s) n → HasSize (IsFalling h s t) f → depth + f ≤ n
    late_high n f all fall =
        let le : length late.0 + length fall.0 ≤ length all.0 = apart_le all.0 late.0 fall.0 late.1.0 fall.1.0
        (λ c m. (all.1.1 c).1 ((order_lists.1 c).0 (ap (λ l. is_one_of l c) (sym whole) ∙ ((late.1.1 c).0 m).0)))
        (λ c m. let k = (fall.1.1 c).0 m in let r = rising t c a k.1 k.2 in (all.1.1 c).1 (anc-trans h s t c a (reached t c a r)))
        (λ c m k. let q = (fall.1.1 c).0 k in ((late.1.1 c).0 m).1 (rising t c a q.1 q.2)) in
        let x : length all.0 ≡ n = all.2 in
        let y : length fall.0 ≡ f = fall.2 in
        let z : length late.0 ≡ depth = late.2 in
        omega arith

pub in_take : (xs : List ObjectId) (k : ℕ) (c : ObjectId) → In (take k xs) c → In xs c
in_take xs k c m = ap (λ l. is_one_of l c) (sym (take-append-drop k xs)) ∙ one_of-left (take k xs) (drop k xs) c m
