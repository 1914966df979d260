-- One more popped commit.
use Rattle.std.proofs.Common.{◌≡◌, Bool, true, false, cond, refl, ap, sym, subst, ◌∙◌, List, [], ◌∷◌, ◌++◌, ◌⊎◌, inl, inr, ◌||◌, ◌&&◌, not, IsTrue}
use Rattle.std.specs.List.{list_any}
use Rattle.std.proofs.lemmas.List.{append-nil}
use Rattle.std.proofs.lemmas.List.Folds.{list_any-append}
use Rattle.gix_base.specs.declared.hash.ObjectId.{ObjectId}
use Rattle.gix_revwalk.specs.History.{History, entry_at, same_id, is_one_of, parents_in, Has, IsEdge, IsAncestor}
use Rattle.gix_revwalk.specs.History.IsAncestor.{itself}
use Rattle.gix_revwalk.proofs.Ids.{same_id-true, same_id-itself}
use Rattle.gix_revwalk.proofs.Members.{or_none, nothing, one_of-left, one_of-right, one_of-cases, one_of-single, one_of-head}
use Rattle.gix_describe.specs.Order.{Ranking, tie_rank}
use Rattle.gix_describe.specs.Trace.{is_edge, is_met, is_open, marked_after, marked_by, late_by, has_mark, late_of, IsNext, IsWalk}
use Rattle.gix_describe.specs.Trace.IsWalk.{begins, goes}
use Rattle.gix_describe.proofs.Early.{In, either, absent, Popped, Pops, pop, Counted, begins as count_begins, counts, counts_not}
use Rattle.gix_describe.proofs.Orders.{not_older}

-- ---- tests and facts
pub and_left : (a b : Bool) → (a && b) ≡ true → a ≡ true
and_left true b e = refl
and_left false b e = cc

pub and_right : (a b : Bool) → (a && b) ≡ true → b ≡ true
and_right true b e = e
and_right false b e = cc

pub both : (a b : Bool) → a ≡ true → b ≡ true → (a && b) ≡ true
both a b e f = rw (e, f) refl

pub or_split : (a b : Bool) → (a || b) ≡ true → (a ≡ true) ⊎ (b ≡ true)
or_split true b e = inl refl
or_split false b e = inr e

pub or_left : (a b : Bool) → a ≡ true → (a || b) ≡ true
or_left a b e = rw e refl

pub or_right : (a b : Bool) → b ≡ true → (a || b) ≡ true
or_right true b e = refl
or_right false b e = e

pub edge_from : (h : History) (a b : ObjectId) → is_edge h a b ≡ true → IsEdge h a b
edge_from h a b e = (and_left _ _ e, and_right (is_one_of (parents_in (entry_at h a)) b) _ e)

pub edge_is : (h : History) (a b : ObjectId) → IsEdge h a b → is_edge h a b ≡ true
edge_is h a b e = both _ _ e.0 e.1

not_true : (b : Bool) → not b ≡ true → b ≡ true → ⊥
not_true true e f = cc
not_true false e f = cc

true_not : (b : Bool) → (b ≡ true → ⊥) → not b ≡ true
true_not true f = absurd (f refl)
true_not false f = refl

-- ---- one more is popped
pub met_more : (h : History) (s : ObjectId) (xs : List ObjectId) (x c : ObjectId) → is_met h s (xs ++ x ∷ []) c ≡ (is_met h s xs c || is_edge h x c)
met_more h s xs x c =
    ap (λ b. same_id s c || b) (list_any-append (λ p. is_edge h p c) xs (x ∷ []) ∙ ap (λ b. list_any (λ p. is_edge h p c) xs || b) (or_none (is_edge h x c)))
    ∙ assoc (same_id s c) (list_any (λ p. is_edge h p c) xs) (is_edge h x c)
  where
    assoc : (a b d : Bool) → (a || (b || d)) ≡ ((a || b) || d)
    assoc true b d = refl
    assoc false b d = refl

pub marked_more : (h : History) (m : ObjectId → Bool) (xs : List ObjectId) (x c : ObjectId) → marked_by h m (xs ++ x ∷ []) c ≡ (marked_by h m xs c || (marked_by h m xs x && is_edge h x c))
marked_more h m [] x c = refl
marked_more h m (y ∷ xs) x c = marked_more h (marked_after h m y) xs x c

pub late_more : (h : History) (m : ObjectId → Bool) (xs : List ObjectId) (x : ObjectId) → late_by h m (xs ++ x ∷ []) ≡ late_by h m xs ++ cond (marked_by h m xs x) [] (x ∷ [])
late_more h m [] x = refl
late_more h m (y ∷ xs) x = elim (m y) as (λ b. cond b (late_by h (marked_after h m y) (xs ++ x ∷ [])) (y ∷ late_by h (marked_after h m y) (xs ++ x ∷ []))
    ≡ cond b (late_by h (marked_after h m y) xs) (y ∷ late_by h (marked_after h m y) xs) ++ cond (marked_by h (marked_after h m y) xs x) [] (x ∷ [])) [
      | true ↦ late_more h (marked_after h m y) xs x
      | false ↦ ap (λ l. y ∷ l) (late_more h (marked_after h m y) xs x)
    ]

-- ---- before t is popped no other has its mark
marked_same : (h : History) (m n : ObjectId → Bool) (xs : List ObjectId) → ((c : ObjectId) → m c ≡ n c) → (c : ObjectId) → marked_by h m xs c ≡ marked_by h n xs c
marked_same h m n [] e c = e c
marked_same h m n (x ∷ xs) e c = marked_same h (marked_after h m x) (marked_after h n x) xs (λ d. rw (e d, e x) refl) c

late_same : (h : History) (m n : ObjectId → Bool) (xs : List ObjectId) → ((c : ObjectId) → m c ≡ n c) → late_by h m xs ≡ late_by h n xs
late_same h m n [] e = refl
late_same h m n (x ∷ xs) e =
    let rest : late_by h (marked_after h m x) xs ≡ late_by h (marked_after h n x) xs = late_same h (marked_after h m x) (marked_after h n x) xs (λ d. rw (e d, e x) refl) in
    ap (λ b. cond b (late_by h (marked_after h m x) xs) (x ∷ late_by h (marked_after h m x) xs)) (e x) ∙ ap (λ l. cond (n x) l (x ∷ l)) rest

other_first : (h : History) (t x : ObjectId) → same_id t x ≡ false → (c : ObjectId) → marked_after h (same_id t) x c ≡ same_id t c
other_first h t x e c = ap (λ b. same_id t c || (b && is_edge h x c)) e ∙ or_none (same_id t c)

not_head : (t x : ObjectId) (xs : List ObjectId) → is_one_of (x ∷ xs) t ≡ false → same_id t x ≡ false
not_head t x xs e = elim (same_id t x) as (λ b. (b || is_one_of xs t) ≡ false → b ≡ false) [ true ↦ λ f. cc | false ↦ λ f. refl ] e

not_rest : (t x : ObjectId) (xs : List ObjectId) → is_one_of (x ∷ xs) t ≡ false → is_one_of xs t ≡ false
not_rest t x xs e = elim (same_id t x) as (λ b. (b || is_one_of xs t) ≡ false → is_one_of xs t ≡ false) [ true ↦ λ f. cc | false ↦ λ f. f ] e

pub mark_fresh : (h : History) (t : ObjectId) (xs : List ObjectId) → is_one_of xs t ≡ false → (c : ObjectId) → has_mark h t xs c ≡ same_id t c
mark_fresh h t [] e c = refl
mark_fresh h t (x ∷ xs) e c = marked_same h (marked_after h (same_id t) x) (same_id t) xs (other_first h t x (not_head t x xs e)) c ∙ mark_fresh h t xs (not_rest t x xs e) c

pub late_fresh : (h : History) (t : ObjectId) (xs : List ObjectId) → is_one_of xs t ≡ false → late_of h t xs ≡ xs
late_fresh h t [] e = refl
late_fresh h t (x ∷ xs) e =
    ap (λ b. cond b (late_by h (marked_after h (same_id t) x) xs) (x ∷ late_by h (marked_after h (same_id t) x) xs)) (not_head t x xs e)
    ∙ ap (λ l. x ∷ l) (late_same h (marked_after h (same_id t) x) (same_id t) xs (other_first h t x (not_head t x xs e)) ∙ late_fresh h t xs (not_rest t x xs e))

-- ---- the facts of a walk
abbrev pub Open : History → ObjectId → List ObjectId → ObjectId → Type 0
Open h s xs c = IsTrue (is_open h s xs c)

abbrev pub Marked : History → ObjectId → List ObjectId → ObjectId → Type 0
Marked h t xs c = IsTrue (has_mark h t xs c)

pub open_met : (h : History) (s : ObjectId) (xs : List ObjectId) (c : ObjectId) → Open h s xs c → is_met h s xs c ≡ true
open_met h s xs c o = and_left _ _ o

pub open_out : (h : History) (s : ObjectId) (xs : List ObjectId) (c : ObjectId) → Open h s xs c → ¬ In xs c
open_out h s xs c o k = not_true (is_one_of xs c) (and_right (is_met h s xs c) _ o) k

pub open_is : (h : History) (s : ObjectId) (xs : List ObjectId) (c : ObjectId) → is_met h s xs c ≡ true → (¬ In xs c) → Open h s xs c
open_is h s xs c m out = both _ _ m (true_not (is_one_of xs c) out)

pub pops_of : (ranks : Ranking) (h : History) (s : ObjectId) (xs : List ObjectId) (x : ObjectId) → IsNext ranks h s xs x → Pops h xs (Open h s xs) x (Open h s (xs ++ x ∷ []))
pops_of ranks h s xs x next = record {
  queued = next.0;
  greatest = λ q k. not_older (tie_rank ranks h s xs) h x q (next.1 q k);
  gone = λ k. open_out h s (xs ++ x ∷ []) x k (one_of-right xs (x ∷ []) x (one_of-head x []));
  fresh = λ d k m. open_out h s (xs ++ x ∷ []) d k (one_of-left xs (x ∷ []) d m);
  from = λ d k. elim (or_split (is_met h s xs d) (is_edge h x d) (sym (met_more h s xs x d) ∙ open_met h s (xs ++ x ∷ []) d k)) as (λ _. Open h s xs d ⊎ IsEdge h x d) [
    | inl l ↦ inl (open_is h s xs d l (λ m. open_out h s (xs ++ x ∷ []) d k (one_of-left xs (x ∷ []) d m)))
    | inr r ↦ inr (edge_from h x d r)
  ];
  stays = λ d k. elim (either (xs ++ x ∷ []) d) as (λ _. Open h s (xs ++ x ∷ []) d ⊎ (d ≡ x)) [
    | inl m ↦ elim (one_of-cases xs (x ∷ []) d m) as (λ _. Open h s (xs ++ x ∷ []) d ⊎ (d ≡ x)) [ inl l ↦ absurd (open_out h s xs d k l) | inr r ↦ inr (one_of-single x d r) ]
    | inr out ↦ inl (open_is h s (xs ++ x ∷ []) d (met_more h s xs x d ∙ or_left _ _ (open_met h s xs d k)) out)
  ];
  gets = λ d e. elim (either (xs ++ x ∷ []) d) as (λ _. In (xs ++ x ∷ []) d ⊎ Open h s (xs ++ x ∷ []) d) [
    | inl m ↦ inl m
    | inr out ↦ inr (open_is h s (xs ++ x ∷ []) d (met_more h s xs x d ∙ or_right _ _ (edge_is h x d e)) out)
  ];
}

nothing_popped : (h : History) (s : ObjectId) → Has h s → Popped h s [] (Open h s [])
nothing_popped h s has = record {
  once = nothing;
  apart = λ c m q. let f : false ≡ true = m in cc;
  sound = λ c m. elim m as (λ _. IsAncestor h s c) [
    | inl k ↦ absurd (let f : false ≡ true = k in cc)
    | inr q ↦ subst (λ z. IsAncestor h s z) (same_id-true s c (sym (or_none (same_id s c)) ∙ open_met h s [] c q)) (itself has)
  ];
  begun = inr (open_is h s [] s (or_left _ _ (same_id-itself s)) (λ k. let f : false ≡ true = k in cc));
  closed = λ c b k e. absurd (let f : false ≡ true = k in cc);
  falls = λ a b p e k. absurd (let f : false ≡ true = k in cc);
}

pub popped_of : (ranks : Ranking) (h : History) (s : ObjectId) (xs : List ObjectId) → Has h s → IsWalk ranks h s xs → Popped h s xs (Open h s xs)
popped_of ranks h s xs has begins = nothing_popped h s has
popped_of ranks h s ys has (goes xs ys' x is w next) =
    subst (λ l. Popped h s l (Open h s l)) (sym is) (pop h s xs (Open h s xs) x (Open h s (xs ++ x ∷ [])) (popped_of ranks h s xs has w) (pops_of ranks h s xs x next))

-- each popped commit counts as a candidate
pub counted_of : (ranks : Ranking) (h : History) (s t : ObjectId) (xs : List ObjectId) → Has h s → IsWalk ranks h s xs → In xs t → Counted h s t xs (Marked h t xs) (late_of h t xs)
counted_of ranks h s t xs has begins m = absurd (let f : false ≡ true = m in cc)
counted_of ranks h s t ys has (goes xs ys' x is w next) m =
    subst (λ l. Counted h s t l (Marked h t l) (late_of h t l)) (sym is) (elim (one_of-cases xs (x ∷ []) t (ap (λ l. is_one_of l t) (sym is) ∙ m)) as (λ _. Counted h s t (xs ++ x ∷ []) (Marked h t (xs ++ x ∷ [])) (late_of h t (xs ++ x ∷ []))) [
      | inl k ↦ more (counted_of ranks h s t xs has w k)
      | inr k ↦ subst (λ z. Counted h s z (xs ++ x ∷ []) (Marked h z (xs ++ x ∷ [])) (late_of h z (xs ++ x ∷ []))) (sym (one_of-single x t k)) first
    ])
  where
    at : Popped h s xs (Open h s xs)
    at = popped_of ranks h s xs has w

    pops : Pops h xs (Open h s xs) x (Open h s (xs ++ x ∷ []))
    pops = pops_of ranks h s xs x next

    kept : (t c : ObjectId) → Marked h t xs c → Marked h t (xs ++ x ∷ []) c
    kept t c k = marked_more h (same_id t) xs x c ∙ or_left _ _ k

    only : (t c : ObjectId) → Marked h t (xs ++ x ∷ []) c → Marked h t xs c ⊎ (Marked h t xs x × IsEdge h x c)
    only t c k = elim (or_split (has_mark h t xs c) (has_mark h t xs x && is_edge h x c) (sym (marked_more h (same_id t) xs x c) ∙ k)) as (λ _. Marked h t xs c ⊎ (Marked h t xs x × IsEdge h x c)) [
      | inl l ↦ inl l
      | inr r ↦ inr (and_left _ _ r, edge_from h x c (and_right (has_mark h t xs x) _ r))
    ]

    parents : (t b : ObjectId) → Marked h t xs x → IsEdge h x b → Marked h t (xs ++ x ∷ []) b
    parents t b k e = marked_more h (same_id t) xs x b ∙ or_right _ _ (both _ _ k (edge_is h x b e))

    more : Counted h s t xs (Marked h t xs) (late_of h t xs) → Counted h s t (xs ++ x ∷ []) (Marked h t (xs ++ x ∷ [])) (late_of h t (xs ++ x ∷ []))
    more one = elim (has_mark h t xs x) as (λ b. has_mark h t xs x ≡ b → Counted h s t (xs ++ x ∷ []) (Marked h t (xs ++ x ∷ [])) (late_of h t (xs ++ x ∷ []))) [
      | true ↦ λ e. subst (λ l. Counted h s t (xs ++ x ∷ []) (Marked h t (xs ++ x ∷ [])) l) (sym (late_more h (same_id t) xs x ∙ ap (λ b. late_of h t xs ++ cond b [] (x ∷ [])) e ∙ append-nil (late_of h t xs)))
          (counts_not h s xs (Open h s xs) x (Open h s (xs ++ x ∷ [])) at pops t (Marked h t xs) (Marked h t (xs ++ x ∷ [])) (late_of h t xs) one (kept t) (only t) e (λ b f. parents t b e f))
      | false ↦ λ e. subst (λ l. Counted h s t (xs ++ x ∷ []) (Marked h t (xs ++ x ∷ [])) l) (sym (late_more h (same_id t) xs x ∙ ap (λ b. late_of h t xs ++ cond b [] (x ∷ [])) e))
          (counts h s xs (Open h s xs) x (Open h s (xs ++ x ∷ [])) at pops t (Marked h t xs) (Marked h t (xs ++ x ∷ [])) (late_of h t xs) one (kept t) (only t) (λ k. let f : true ≡ false = sym k ∙ e in cc))
    ] refl

    out : is_one_of xs x ≡ false
    out = absent xs x (open_out h s xs x next.0)

    own : Marked h x xs x
    own = mark_fresh h x xs out x ∙ same_id-itself x

    first : Counted h s x (xs ++ x ∷ []) (Marked h x (xs ++ x ∷ [])) (late_of h x (xs ++ x ∷ []))
    first = subst (λ l. Counted h s x (xs ++ x ∷ []) (Marked h x (xs ++ x ∷ [])) l)
        (sym (late_more h (same_id x) xs x ∙ ap (λ b. late_of h x xs ++ cond b [] (x ∷ [])) own ∙ append-nil (late_of h x xs) ∙ late_fresh h x xs out))
        (count_begins h s xs (Open h s xs) x (Open h s (xs ++ x ∷ [])) at pops (Marked h x (xs ++ x ∷ [])) (kept x x own) (λ b e. parents x b own e)
        (λ c k. elim (only x c k) as (λ _. (c ≡ x) ⊎ IsEdge h x c) [ inl l ↦ inl (sym (same_id-true x c (sym (mark_fresh h x xs out c) ∙ l))) | inr r ↦ inr r.1 ]))
