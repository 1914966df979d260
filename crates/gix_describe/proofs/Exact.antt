-- In the fixed order a candidate's late commits are those to which no rising path leads.
use Rattle.std.proofs.Common.{◌≡◌, true, false, cond, refl, ap, sym, subst, ◌∙◌, List, [], ◌∷◌, ◌++◌, ◌⊎◌, inl, inr, ◌<◌, ◌≤◌, ◌+◌, length, arith, ◌||◌, append_assoc}
use Rattle.std.proofs.lemmas.List.{length_push}
use Rattle.gix_base.specs.declared.hash.ObjectId.{ObjectId}
use Rattle.gix_revwalk.specs.History.{History, same_id, is_one_of, IsEdge}
use Rattle.gix_describe.specs.Ahead.{IsPath}
use Rattle.gix_describe.specs.Ahead.IsPath.{stay, further as goes_on}
use Rattle.gix_describe.specs.Order.{place, IsRisingEdge, Reaches}
use Rattle.gix_revwalk.proofs.Members.{one_of-left, one_of-right, one_of-cases, one_of-single, one_of-head, one_of-tail}
use Rattle.gix_revwalk.proofs.Ids.{same_id-itself}
use Rattle.gix_describe.proofs.Early.{In, either}
use Rattle.gix_describe.proofs.Orders.{place_left, place_below, place_past}

-- an edge along which places rise, from one of xs
abbrev pub Within : History → List ObjectId → List ObjectId → ObjectId → ObjectId → Type 0
Within h zs xs a b = IsRisingEdge h zs a b × In xs a

-- once xs is popped, the first part of the order zs
pub record Exact (h : History) (zs xs : List ObjectId) (t : ObjectId) (Marked : ObjectId → Type 0) (late : List ObjectId) : Type 0 where
  pub own : In xs t
  pub late_not : (c : ObjectId) → In late c → ¬ Reaches h zs t c
  pub on_time : (c : ObjectId) → In xs c → In late c ⊎ Reaches h zs t c
  pub marked : (c : ObjectId) → (¬ In xs c) → Marked c → IsPath (Within h zs xs) t c
  pub marks : (c : ObjectId) → (¬ In xs c) → IsPath (Within h zs xs) t c → Marked c

widen : (h : History) (zs xs : List ObjectId) (x t c : ObjectId) → IsPath (Within h zs xs) t c → IsPath (Within h zs (xs ++ x ∷ [])) t c
widen h zs xs x t c stay = stay
widen h zs xs x t c (goes_on b c' p e) = goes_on b c (widen h zs xs x t b p) (e.0, one_of-left xs (x ∷ []) b e.1)

reaches : (h : History) (zs xs : List ObjectId) (t c : ObjectId) → IsPath (Within h zs xs) t c → Reaches h zs t c
reaches h zs xs t c stay = stay
reaches h zs xs t c (goes_on b c' p e) = goes_on b c (reaches h zs xs t b p) e.0

module _ (h : History) (zs xs rest : List ObjectId) (x : ObjectId) (is : zs ≡ xs ++ (x ∷ rest)) (out : ¬ In xs x) where
  in_first : (c : ObjectId) → place zs c < length xs → In xs c
  in_first c low = elim (either xs c) as (λ _. In xs c) [
    | inl k ↦ k
    | inr no' ↦ let high : length xs ≤ place zs c = subst (λ l. length xs ≤ place l c) (sym is) (place_past xs (x ∷ rest) c no') in absurd (omega arith)
  ]

  low_in : (c : ObjectId) → In xs c → place zs c < length xs
  low_in c k = let low : place xs c < length xs = place_below xs c k in let e : place zs c ≡ place xs c = ap (λ l. place l c) is ∙ place_left xs (x ∷ rest) c k in omega arith

  place_of : place zs x ≡ length xs
  place_of = ap (λ l. place l x) is ∙ at xs out
    where
      at : (l : List ObjectId) → (¬ In l x) → place (l ++ (x ∷ rest)) x ≡ length l
      at [] no' = ap (λ b. cond b 0 (place rest x + 1)) (same_id-itself x)
      at (y ∷ l) no' = elim (same_id x y) as (λ b. same_id x y ≡ b → cond b 0 (place (l ++ (x ∷ rest)) x + 1) ≡ length (y ∷ l)) [
        | true ↦ λ e. absurd (no' (ap (λ b. b || is_one_of l x) e))
        | false ↦ λ e. let r : place (l ++ (x ∷ rest)) x ≡ length l = at l (λ k. no' (one_of-tail y l x k)) in omega arith
      ] refl

  high_out : (c : ObjectId) → (¬ In (xs ++ x ∷ []) c) → length xs < place zs c
  high_out c no' =
      let high : length xs ≤ place zs c = subst (λ l. length xs ≤ place l c) (sym is) (place_past xs (x ∷ rest) c (λ k. no' (one_of-left xs (x ∷ []) c k))) in
      let more : length (xs ++ x ∷ []) ≤ place ((xs ++ x ∷ []) ++ rest) c = place_past (xs ++ x ∷ []) rest c no' in
      let len : length (xs ++ x ∷ []) ≡ length xs + 1 = length_push xs x in
      let same : place zs c ≡ place ((xs ++ x ∷ []) ++ rest) c = ap (λ l. place l c) (is ∙ sym (append_assoc xs (x ∷ []) rest)) in
      omega arith

  -- a rising path to a place up to x comes by the first part alone
  narrow : (t c : ObjectId) → Reaches h zs t c → place zs c ≤ length xs → IsPath (Within h zs xs) t c
  narrow t c stay low = stay
  narrow t c (goes_on b c' p e) low =
      let up : place zs b < place zs c = e.1 in
      let b_low : place zs b < length xs = omega arith in
      goes_on b c (narrow t b p (omega arith)) (e, in_first b b_low)

  module _ (t : ObjectId) (Marked After : ObjectId → Type 0) (late : List ObjectId) (at : Exact h zs xs t Marked late)
      (kept : (c : ObjectId) → Marked c → After c) (only : (c : ObjectId) → After c → Marked c ⊎ (Marked x × IsEdge h x c)) (parents : (c : ObjectId) → Marked x → IsEdge h x c → After c) where
    marked_after : (c : ObjectId) → (¬ In (xs ++ x ∷ []) c) → After c → IsPath (Within h zs (xs ++ x ∷ [])) t c
    marked_after c no' m = elim (only c m) as (λ _. IsPath (Within h zs (xs ++ x ∷ [])) t c) [
      | inl k ↦ widen h zs xs x t c (at.marked c (λ i. no' (one_of-left xs (x ∷ []) c i)) k)
      | inr k ↦
          let high : length xs < place zs c = high_out c no' in
          let here : place zs x ≡ length xs = place_of in
          goes_on x c (widen h zs xs x t x (at.marked x out k.0)) ((k.1, omega arith), one_of-right xs (x ∷ []) x (one_of-head x []))
    ]

    marks_after : (c : ObjectId) → (¬ In (xs ++ x ∷ []) c) → IsPath (Within h zs (xs ++ x ∷ [])) t c → After c
    marks_after c no' stay = absurd (no' (one_of-left xs (x ∷ []) t at.own))
    marks_after c no' (goes_on b c' p e) =
        let r = reaches h zs (xs ++ x ∷ []) t b p in
        elim (one_of-cases xs (x ∷ []) b e.1) as (λ _. After c) [
          | inl k ↦ let low : place zs b < length xs = low_in b k in kept c (at.marks c (λ i. no' (one_of-left xs (x ∷ []) c i)) (goes_on b c (narrow t b r (omega arith)) (e.0, k)))
          | inr k ↦ by b (one_of-single x b k) r e.0.0
        ]
      where
        by : (b : ObjectId) → b ≡ x → Reaches h zs t b → IsEdge h b c → After c
        by b same r e =
            let here : place zs x ≡ length xs = place_of in
            parents c (at.marks x out (narrow t x (subst (λ z. Reaches h zs t z) same r) (omega arith))) (subst (λ z. IsEdge h z c) same e)

    pub exact_marked : Marked x → Exact h zs (xs ++ x ∷ []) t After late
    exact_marked m = record {
      own = one_of-left xs (x ∷ []) t at.own;
      late_not = at.late_not;
      on_time = λ c k. elim (one_of-cases xs (x ∷ []) c k) as (λ _. In late c ⊎ Reaches h zs t c) [
        | inl l ↦ at.on_time c l
        | inr r ↦ inr (subst (λ z. Reaches h zs t z) (sym (one_of-single x c r)) (reaches h zs xs t x (at.marked x out m)))
      ];
      marked = marked_after;
      marks = marks_after;
    }

    pub exact_late : (¬ Marked x) → Exact h zs (xs ++ x ∷ []) t After (late ++ x ∷ [])
    exact_late lacks = record {
      own = one_of-left xs (x ∷ []) t at.own;
      late_not = λ c k. elim (one_of-cases late (x ∷ []) c k) as (λ _. ¬ Reaches h zs t c) [
        | inl l ↦ at.late_not c l
        | inr r ↦ λ q. let here : place zs x ≡ length xs = place_of in lacks (at.marks x out (narrow t x (subst (λ z. Reaches h zs t z) (one_of-single x c r) q) (omega arith)))
      ];
      on_time = λ c k. elim (one_of-cases xs (x ∷ []) c k) as (λ _. In (late ++ x ∷ []) c ⊎ Reaches h zs t c) [
        | inl l ↦ elim (at.on_time c l) as (λ _. In (late ++ x ∷ []) c ⊎ Reaches h zs t c) [ inl a ↦ inl (one_of-left late (x ∷ []) c a) | inr b ↦ inr b ]
        | inr r ↦ inl (one_of-right late (x ∷ []) c r)
      ];
      marked = marked_after;
      marks = marks_after;
    }

  -- x becomes a candidate
  pub exact_begins : (Marked : ObjectId → Type 0) → ((c : ObjectId) → IsEdge h x c → Marked c) → ((c : ObjectId) → Marked c → (c ≡ x) ⊎ IsEdge h x c) → Exact h zs (xs ++ x ∷ []) x Marked xs
  exact_begins Marked parents only = record {
    own = one_of-right xs (x ∷ []) x (one_of-head x []);
    late_not = λ c k q. let low : place zs c < length xs = low_in c k in let up : place zs x ≤ place zs c = rises x c q in let here : place zs x ≡ length xs = place_of in absurd (omega arith);
    on_time = λ c k. elim (one_of-cases xs (x ∷ []) c k) as (λ _. In xs c ⊎ Reaches h zs x c) [ inl l ↦ inl l | inr r ↦ inr (subst (λ z. Reaches h zs x z) (sym (one_of-single x c r)) stay) ];
    marked = λ c no' m. elim (only c m) as (λ _. IsPath (Within h zs (xs ++ x ∷ [])) x c) [
      | inl same ↦ absurd (no' (subst (λ z. In (xs ++ x ∷ []) z) (sym same) (one_of-right xs (x ∷ []) x (one_of-head x []))))
      | inr e ↦ let high : length xs < place zs c = high_out c no' in let here : place zs x ≡ length xs = place_of in goes_on x c stay ((e, omega arith), one_of-right xs (x ∷ []) x (one_of-head x []))
    ];
    marks = λ c no' p. last c no' p;
  }
    where
      rises : (a c : ObjectId) → Reaches h zs a c → place zs a ≤ place zs c
      rises a c stay = omega arith
      rises a c (goes_on b c' p e) = let r : place zs a ≤ place zs b = rises a b p in let s : place zs b < place zs c = e.1 in omega arith

      last : (c : ObjectId) → (¬ In (xs ++ x ∷ []) c) → IsPath (Within h zs (xs ++ x ∷ [])) x c → Marked c
      last c no' stay = absurd (no' (one_of-right xs (x ∷ []) x (one_of-head x [])))
      last c no' (goes_on b c' p e) = elim (one_of-cases xs (x ∷ []) b e.1) as (λ _. Marked c) [
        | inl k ↦ let low : place zs b < length xs = low_in b k in let up : place zs x ≤ place zs b = rises x b (reaches h zs (xs ++ x ∷ []) x b p) in let here : place zs x ≡ length xs = place_of in absurd (omega arith)
        | inr k ↦ parents c (subst (λ z. IsEdge h z c) (one_of-single x b k) e.0.0)
      ]
