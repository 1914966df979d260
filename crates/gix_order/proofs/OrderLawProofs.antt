-- Proofs of the laws of orders.
use Rattle.std.proofs.Common.{◌≡◌, ◌≢◌, ℕ, zero, suc, ◌+◌, ◌<◌, ◌≤◌, ◌⊎◌, true, false, cond, ◌||◌, ◌==◌, eqb, IsTrue, List, [], ◌∷◌, ◌++◌, length, get_or, take, All, AllPairs, slice_index, flat_map, refl, sym, ap, subst, ◌∙◌, inl, inr, arith, eq-eqb, eqb-true}
use Rattle.std.specs.Cmp.{int_chain}
use Rattle.std.specs.Int.Signed.{<ℤ_irrefl}
use Rattle.std.proofs.lemmas.Bool.{cases_eq, cases_lt, cases_Bool, or_cases, both_ways}
use Rattle.std.proofs.lemmas.List.{get_or_append_left, get_or_push, take-append-le, take_at, length_push}
use Rattle.std.proofs.lemmas.List.Elements.{All-push, All-nil}
use Rattle.std.proofs.lemmas.List.Quantifiers.{all_pairs_push}
use Rattle.gix_order.specs.declared.commits.Order.{Order}
use Rattle.gix_order.specs.declared.commits.Order.TheVariants.{Dated, Topological}
use Rattle.gix_order.specs.Orders.{Listed, has, places, met, last_place, IsChild, Waits, IsNoLater, ComesNext, GoesOn, ended, next, IsInOrder}
use Rattle.gix_order.specs.OrderLaws.{NoneTwice, ChildrenFirst, LeadsTo, parent, onward, IsBehindNoCircle, NoneLost, OrderIsUnique}
use Rattle.gix_order.specs.Counts.{sum_over}
use Rattle.gix_order.proofs.Lists.{has_other}
use Rattle.gix_order.proofs.Times.{sum_over_shown, times_none, times_in-append, times_in-places}

has_get_or : (xs : List ℕ) (k d : ℕ) → k < length xs → has xs (get_or xs k d) ≡ true
has_get_or [] k d h = absurd (omega arith)
has_get_or (x ∷ xs) zero d h = rw (eq-eqb x x refl) refl
has_get_or (x ∷ xs) (suc k) d h = rw (has_get_or xs k d (omega arith)) (elim (eqb x (get_or xs k d)) as (λ b. (b || true) ≡ true) [ true ↦ refl | false ↦ refl ])

of_list : (order : Order) (l : Listed) (xs zs : List ℕ) → GoesOn order l xs zs → All (λ c. c < l.count) xs → All (λ c. c < l.count) zs
of_list order l xs zs (ended xs' none) a = a
of_list order l xs zs (next xs' zs' c comes more) a = of_list order l (xs ++ c ∷ []) zs more (All-push (λ d. d < l.count) xs c a comes.0.0.0)

apart : (order : Order) (l : Listed) (xs zs : List ℕ) → GoesOn order l xs zs → AllPairs (λ c d. c ≢ d) xs → AllPairs (λ c d. c ≢ d) zs
apart order l xs zs (ended xs' none) a = a
apart order l xs zs (next xs' zs' c comes more) a =
    apart order l (xs ++ c ∷ []) zs more (all_pairs_push (λ d e. d ≢ e) xs c a (λ k d h e. comes.0.1 (ap (has xs) (sym e) ∙ has_get_or xs k d h)))

pub none_twice_proof : NoneTwice
none_twice_proof order l zs o =
    (of_list order l [] zs o (All-nil (λ c. c < l.count)), apart order l [] zs o (λ i j d h k. absurd (omega arith)))

-- the children of each commit of xs stand before it
abbrev StandBehind : Listed → List ℕ → Type 0
StandBehind l xs = (k c : ℕ) → k < length xs → IsChild l c (slice_index xs k) → IsTrue (has (take k xs) c)

behind_push : (l : Listed) (xs : List ℕ) (x : ℕ) → StandBehind l xs → ((c : ℕ) → IsChild l c x → IsTrue (has xs c)) → StandBehind l (xs ++ x ∷ [])
behind_push l xs x a free k c h child =
    elim (cases_lt k (length xs)) [
      | inl lt ↦
          let same = get_or_append_left xs (x ∷ []) 0 k lt in
          let front = take-append-le k xs (x ∷ []) (omega arith) in
          let child' : IsChild l c (slice_index xs k) = rw same at child in
          rw front (a k c lt child')
      | inr ge ↦
          let len = length_push xs x in
          let last : length xs ≡ k = omega arith in
          let same = get_or_push xs x 0 k last in
          let front = take_at xs (x ∷ []) k last in
          let child' : IsChild l c x = rw same at child in
          rw front (free c child')
    ]

behind_all : (order : Order) (l : Listed) (xs zs : List ℕ) → GoesOn order l xs zs → StandBehind l xs → StandBehind l zs
behind_all order l xs zs (ended xs' none) a = a
behind_all order l xs zs (next xs' zs' c comes more) a = behind_all order l (xs ++ c ∷ []) zs more (behind_push l xs c a comes.0.0.1)

pub children_first_proof : ChildrenFirst
children_first_proof order l zs k c o h child = behind_all order l [] zs o (λ i d j e. absurd (omega arith)) k c h child

none_left : (order : Order) (l : Listed) (xs zs : List ℕ) → GoesOn order l xs zs → (c : ℕ) → ¬ Waits l zs c
none_left order l xs zs (ended xs' none) = none
none_left order l xs zs (next xs' zs' c comes more) = none_left order l (xs ++ c ∷ []) zs more

-- a child of p below n that was not shown, or none
open_child : (l : Listed) (zs : List ℕ) (p n : ℕ) → n ≤ l.count → ((c : ℕ) × IsChild l c p × (has zs c ≡ false)) ⊎ ((c : ℕ) → c < n → IsTrue (has (l.parents c) p) → has zs c ≡ true)
open_child l zs p zero h = inr (λ c k t. absurd (omega arith))
open_child l zs p (suc n) h =
    elim (open_child l zs p n (omega arith)) [
      | inl w ↦ inl w
      | inr all ↦ elim (cases_Bool (has zs n)) [
        | inl t ↦ inr (λ c k r. elim (cases_eq c n) [ inl e ↦ ap (has zs) e ∙ t | inr d ↦ all c (omega arith) r ])
        | inr u ↦ elim (cases_Bool (has (l.parents n) p)) [
          | inl r ↦ inl (n, (omega arith, r), u)
          | inr m ↦ inr (λ c k r. elim (cases_eq c n) [
            | inl e ↦ let P : ℕ → Type 0 = λ i. has (l.parents i) p ≡ true in absurd (both_ways (has (l.parents n) p) m (subst P e r))
            | inr d ↦ all c (omega arith) r
          ])
        ]
      ]
    ]

-- Commit q and those of the chain were not shown, and q leads to each of the chain. An unshown
-- child of q is either in the chain, so that it is on a circle, or makes the chain longer.
climb : (l : Listed) (zs : List ℕ) (p : ℕ) → ((c : ℕ) → ¬ Waits l zs c) → IsBehindNoCircle l p → (fuel : ℕ) (chain : List ℕ) (q : ℕ) → sum_over l.count chain (λ c. 1) < fuel → q < l.count
    → has zs q ≡ false → (q ≡ p) ⊎ LeadsTo l q p → ((x : ℕ) → has chain x ≡ true → (x ≡ q) ⊎ LeadsTo l q x) → ⊥
climb l zs p none clear zero chain q room here u to back = absurd (omega arith)
climb l zs p none clear (suc fuel) chain q room here u to back =
    elim (open_child l zs q l.count (omega arith)) [
      | inr all ↦ none q ((here, λ c child. all c child.0 child.1), λ t. both_ways (has zs q) u t)
      | inl w ↦
          let c = w.0 in
          let above : LeadsTo l c p = elim to [ inl e ↦ subst (λ z. LeadsTo l c z) e (parent c q w.1) | inr r ↦ onward c q p w.1 r ] in
          elim (cases_Bool (has chain c)) [
            | inl t ↦ elim (back c t) [
              | inl e ↦ clear c (inr above) (subst (λ z. LeadsTo l c z) (sym e) (parent c q w.1))
              | inr r ↦ clear c (inr above) (onward c q c w.1 r)
            ]
            | inr m ↦
                let less = sum_over_shown l.count chain (λ k. 1) c w.1.0 m in
                climb l zs p none clear fuel (chain ++ c ∷ []) c (omega arith) w.1.0 w.2 (inr above) (λ x t. elim (cases_eq c x) [
                  | inl e ↦ inl (sym e)
                  | inr d ↦ elim (back x (sym (has_other chain c x d) ∙ t)) [
                    | inl e ↦ inr (subst (λ z. LeadsTo l c z) (sym e) (parent c q w.1))
                    | inr r ↦ inr (onward c q x w.1 r)
                  ]
                ])
          ]
    ]

clear_comes : (l : Listed) (zs : List ℕ) (p : ℕ) → ((c : ℕ) → ¬ Waits l zs c) → p < l.count → IsBehindNoCircle l p → has zs p ≡ true
clear_comes l zs p none here clear =
    elim (cases_Bool (has zs p)) [
      | inl t ↦ t
      | inr u ↦ absurd (climb l zs p none clear (sum_over l.count [] (λ c. 1) + 1) [] p (omega arith) here u (inl refl) (λ x t. absurd (both_ways false refl t)))
    ]

-- where a commit stands first
first_place : List ℕ → ℕ → ℕ
first_place [] c = 0
first_place (x ∷ xs) c = cond (x == c) 0 (suc (first_place xs c))

first_is : (xs : List ℕ) (c : ℕ) → has xs c ≡ true → (first_place xs c < length xs) × (get_or xs (first_place xs c) 0 ≡ c)
unfolding first_place
first_is [] c h = absurd (both_ways false refl h)
first_is (x ∷ xs) c h =
    elim (cases_Bool (x == c)) [
      | inl t ↦ rw t (omega arith, eqb-true x c t)
      | inr n ↦
          let rest : has xs c ≡ true = elim (or_cases (x == c) (has xs c) h) [ inl t ↦ absurd (both_ways (x == c) n t) | inr k ↦ k ] in
          let is = first_is xs c rest in
          rw n (omega (arith, is.0), is.1)
    ]

first_before : (k : ℕ) (xs : List ℕ) (c : ℕ) → has (take k xs) c ≡ true → (has xs c ≡ true) × (first_place xs c < k)
unfolding first_place
first_before zero xs c h = absurd (both_ways false refl h)
first_before (suc k) [] c h = absurd (both_ways false refl h)
first_before (suc k) (x ∷ xs) c h =
    elim (cases_Bool (x == c)) [
      | inl t ↦ rw t (refl, omega arith)
      | inr n ↦
          let rest : has (take k xs) c ≡ true = elim (or_cases (x == c) (has (take k xs) c) h) [ inl t ↦ absurd (both_ways (x == c) n t) | inr m ↦ m ] in
          let is = first_before k xs c rest in
          rw (n, is.0) (refl, omega (arith, is.1))
    ]

child_before : (order : Order) (l : Listed) (zs : List ℕ) (c p : ℕ) → IsInOrder order l zs → IsChild l c p → has zs p ≡ true → (has zs c ≡ true) × (first_place zs c < first_place zs p)
child_before order l zs c p o child t =
    let is = first_is zs p t in
    let child' : IsChild l c (slice_index zs (first_place zs p)) = rw is.1 child in
    first_before (first_place zs p) zs c (children_first_proof order l zs (first_place zs p) c o is.0 child')

leads_before : (order : Order) (l : Listed) (zs : List ℕ) (c p : ℕ) → IsInOrder order l zs → LeadsTo l c p → has zs p ≡ true → (has zs c ≡ true) × (first_place zs c < first_place zs p)
leads_before order l zs c p o (parent c' p' child) t = child_before order l zs c p o child t
leads_before order l zs c p o (onward c' d p' child rest) t =
    let later = leads_before order l zs d p o rest t in
    let first = child_before order l zs c d o child later.0 in
    (first.0, omega (arith, first.1, later.1))

comes_clear : (order : Order) (l : Listed) (zs : List ℕ) (p : ℕ) → IsInOrder order l zs → has zs p ≡ true → IsBehindNoCircle l p
comes_clear order l zs p o t q to circle =
    let there : has zs q ≡ true = elim to [ inl e ↦ ap (has zs) e ∙ t | inr r ↦ (leads_before order l zs q p o r t).0 ] in
    let before = leads_before order l zs q q o circle there in
    absurd (omega (arith, before.1))

pub none_lost_proof : NoneLost
none_lost_proof order l zs p o here = (comes_clear order l zs p o, clear_comes l zs p (none_left order l [] zs o) here)

here_then : (x c : ℕ) (xs : List ℕ) → has (x ∷ xs) c ≡ true → has xs c ≡ false → x ≡ c
here_then x c xs h n = elim (or_cases (x == c) (has xs c) h) [ inl e ↦ eqb-true x c e | inr t ↦ absurd (both_ways (has xs c) n t) ]

-- two commits do not stand last at one place
last_place_same : (xs : List ℕ) (c d : ℕ) → has xs c ≡ true → has xs d ≡ true → last_place xs c ≡ last_place xs d → c ≡ d
last_place_same [] c d h k e = absurd (both_ways false refl h)
last_place_same (x ∷ xs) c d h k e =
    elim (cases_Bool (has xs c)) [
      | inl t ↦ elim (cases_Bool (has xs d)) [
        | inl u ↦
            let same : suc (last_place xs c) ≡ suc (last_place xs d) = rw (t, u) at e in
            last_place_same xs c d t u (omega arith)
        | inr n ↦ let off : suc (last_place xs c) ≡ 0 = rw (t, n) at e in absurd (omega arith)
      ]
      | inr m ↦ elim (cases_Bool (has xs d)) [
        | inl u ↦ let off : 0 ≡ suc (last_place xs d) = rw (m, u) at e in absurd (omega arith)
        | inr n ↦ sym (here_then x c xs h m) ∙ here_then x d xs k n
      ]
    ]

first_apart : (order : Order) (l : Listed) (ms : List ℕ) (c d : ℕ) → has ms c ≡ true → has ms d ≡ true → IsNoLater order l ms c d → IsNoLater order l ms d c → c ≡ d
first_apart Topological l ms c d h k a b = last_place_same ms c d h k (omega arith)
first_apart Dated l ms c d h k (inl a) (inl b) = absurd (<ℤ_irrefl (int_chain (l.time d) (l.time c) (l.time d) a b))
first_apart Dated l ms c d h k (inl a) (inr b) = absurd (<ℤ_irrefl (rw b.0 at a))
first_apart Dated l ms c d h k (inr a) (inl b) = absurd (<ℤ_irrefl (rw a.0 at b))
first_apart Dated l ms c d h k (inr a) (inr b) = last_place_same ms c d h k (let x = a.1 in let y = b.1 in omega arith)

has_met : (order : Order) (l : Listed) (shown : List ℕ) (c : ℕ) → c < l.count → has (met order l shown) c ≡ true
has_met order l shown c h =
    elim (cases_Bool (has (met order l shown) c)) [
      | inl t ↦ t
      | inr n ↦
          let none = times_none (met order l shown) c n in
          let both = times_in-append (places order l.count) (flat_map l.parents shown) c in
          let one = times_in-places order l.count c h in
          absurd (omega arith)
    ]

next_same : (order : Order) (l : Listed) (xs : List ℕ) (c d : ℕ) → ComesNext order l xs c → ComesNext order l xs d → c ≡ d
next_same order l xs c d u v =
    first_apart order l (met order l xs) c d (has_met order l xs c u.0.0.0) (has_met order l xs d v.0.0.0) (u.1 d v.0) (v.1 c u.0)

unique : (order : Order) (l : Listed) (xs zs ws : List ℕ) → GoesOn order l xs zs → GoesOn order l xs ws → zs ≡ ws
unique order l xs zs ws (ended xs' none) b = by b none
  where
    by : {ws : List ℕ} → GoesOn order l xs ws → ((c : ℕ) → ¬ Waits l xs c) → xs ≡ ws
    by (ended xs' n) none = refl
    by (next xs' zs' c comes more) none = absurd (none c comes.0)
unique order l xs zs ws (next xs' zs' c comes rest) b = by b (λ ws k. unique order l (xs ++ c ∷ []) zs ws rest k)
  where
    by : {ws : List ℕ} → GoesOn order l xs ws → ((ws : List ℕ) → GoesOn order l (xs ++ c ∷ []) ws → zs ≡ ws) → zs ≡ ws
    by (ended xs' none) again = absurd (none c comes.0)
    by {ws = ws} (next xs' zs' d comes' more) again = again ws (subst (λ z. GoesOn order l (xs ++ z ∷ []) ws) (next_same order l xs d c comes' comes) more)

pub order_is_unique_proof : OrderIsUnique
order_is_unique_proof order l zs ws a b = unique order l [] zs ws a b
