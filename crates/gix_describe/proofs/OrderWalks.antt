-- A walk is the first part of the order, which there is, and of which there is one.
use Rattle.std.proofs.Common.{◌≡◌, ℕ, zero, suc, true, false, cond, refl, ap, sym, subst, ◌∙◌, List, [], ◌∷◌, ◌++◌, ◌⊎◌, inl, inr, ◌&&◌, length, ◌≤◌, ◌<◌, ◌+◌, arith, take, append_assoc, Some, None}
use Rattle.std.specs.List.{list_any, filter}
use Rattle.std.specs.Ordering.{nat_cmp, ordering_reverse, is_lt, is_gt}
use Rattle.std.specs.Cmp.{IsTotalOrder}
use Rattle.std.specs.Cmp.Lexicographic.{slice_cmp}
use Rattle.std.specs.Prelude.{◌<ℤ◌}
use Rattle.std.specs.declared.cmp.Ordering.{Ordering}
use Rattle.std.specs.declared.cmp.Ordering.TheVariants.{Less, Equal, Greater}
use Rattle.std.proofs.lemmas.Cmp.{int_cmp_total, nat_cmp_total, nat_list_cmp_total, on_total, then_total, back_total, upto, tied_itself}
use Rattle.std.proofs.lemmas.Bool.{cases_lt}
use Rattle.std.proofs.lemmas.Int.{ints}
use Rattle.std.proofs.lemmas.List.{length_push, append-nil, take_all, take-append-le}
use Rattle.gix_base.specs.declared.hash.ObjectId.{ObjectId}
use Rattle.gix_revwalk.specs.History.{History, entry_at, time_of, same_id, is_one_of, parents_in, Has, IsEdge}
use Rattle.gix_revwalk.specs.Walks.{parents_of_all}
use Rattle.gix_revwalk.proofs.Ids.{same_id-true, same_id-itself}
use Rattle.gix_revwalk.proofs.Members.{one_of-left, one_of-right, one_of-cases, one_of-single, one_of-head, one_of-tail, one_of-cons_cases, one_of-filter, one_of-filtered}
use Rattle.gix_describe.specs.declared.describe.options.Tie.{Tie}
use Rattle.gix_describe.specs.declared.describe.key.Key.{Key}
use Rattle.gix_describe.specs.Order.{Ranking, PutBack, IsBefore, tie_rank, IsUnlisted, GoesOn, IsOrder, IsLate, IsLedTo}
use Rattle.gix_describe.specs.Order.GoesOn.{ended, next}
use Rattle.gix_describe.specs.Trace.{is_edge, is_met, is_open, has_mark, late_of, IsNext, IsWalk}
use Rattle.gix_describe.specs.Trace.IsWalk.{begins, goes}
use Rattle.gix_describe.specs.Handing.{key_order, key_at}
use Rattle.gix_describe.proofs.Early.{In, absent}
use Rattle.gix_describe.proofs.Traces.{Open, Marked, and_left, and_right, both, or_split, or_left, or_right, edge_from, edge_is, marked_more, late_more, mark_fresh, late_fresh, open_met, open_out, open_is, counted_of}
use Rattle.gix_describe.proofs.Ranking.{again_before}
use Rattle.gix_describe.proofs.Exact.{Exact, exact_marked, exact_late, exact_begins}
use Rattle.gix_describe.proofs.Settles.{goes_on_from, count_is_final}
use Rattle.gix_describe.proofs.WalkQueue.{started, only_start, order_key}
use Rattle.gix_describe.proofs.WalkSteps.{goes_more, bounded}

-- ---- open and not listed
pub any_edge : (h : History) (xs : List ObjectId) (c : ObjectId) → list_any (λ p. is_edge h p c) xs ≡ true → (p : ObjectId) × In xs p × IsEdge h p c
any_edge h [] c m = absurd (let f : false ≡ true = m in cc)
any_edge h (x ∷ xs) c m = elim (or_split (is_edge h x c) (list_any (λ p. is_edge h p c) xs) m) as (λ _. (p : ObjectId) × In (x ∷ xs) p × IsEdge h p c) [
  | inl e ↦ (x, one_of-head x xs, edge_from h x c e)
  | inr r ↦ let q = any_edge h xs c r in (q.0, one_of-tail x xs q.0 q.1, q.2)
]

pub edge_any : (h : History) (xs : List ObjectId) (p c : ObjectId) → In xs p → IsEdge h p c → list_any (λ p. is_edge h p c) xs ≡ true
edge_any h [] p c m e = absurd (let f : false ≡ true = m in cc)
edge_any h (x ∷ xs) p c m e = elim (one_of-cons_cases x xs p m) as (λ _. list_any (λ p. is_edge h p c) (x ∷ xs) ≡ true) [
  | inl is ↦ or_left _ _ (edge_is h x c (subst (λ z. IsEdge h z c) is e))
  | inr k ↦ or_right _ _ (edge_any h xs p c k e)
]

-- what is met is the start, or one of the popped leads to it
pub met_led : (h : History) (s : ObjectId) (xs : List ObjectId) (c : ObjectId) → is_met h s xs c ≡ true → IsLedTo h s xs c
met_led h s xs c m = elim (or_split (same_id s c) (list_any (λ p. is_edge h p c) xs) m) as (λ _. IsLedTo h s xs c) [
  | inl e ↦ inl (sym (same_id-true s c e))
  | inr r ↦ inr (any_edge h xs c r)
]

pub led_met : (h : History) (s : ObjectId) (xs : List ObjectId) (c : ObjectId) → IsLedTo h s xs c → is_met h s xs c ≡ true
led_met h s xs c l = elim l as (λ _. is_met h s xs c ≡ true) [
  | inl e ↦ or_left _ _ (ap (same_id s) e ∙ same_id-itself s)
  | inr r ↦ or_right _ _ (edge_any h xs r.0 c r.1 r.2)
]

pub unlisted_open : (h : History) (s : ObjectId) (xs : List ObjectId) (c : ObjectId) → IsUnlisted h xs c → Open h s xs c
unlisted_open h s xs c u = open_is h s xs c (or_right _ _ (edge_any h xs u.1 c u.2 u.3)) u.0

pub open_unlisted : (h : History) (s : ObjectId) (xs : List ObjectId) (c : ObjectId) → In xs s → Open h s xs c → IsUnlisted h xs c
open_unlisted h s xs c s_in o = elim (or_split (same_id s c) (list_any (λ p. is_edge h p c) xs) (open_met h s xs c o)) as (λ _. IsUnlisted h xs c) [
  | inl is ↦ absurd (open_out h s xs c o (subst (λ z. In xs z) (same_id-true s c is) s_in))
  | inr r ↦ let q = any_edge h xs c r in (open_out h s xs c o, q.0, q.1, q.2)
]

-- ---- what goes on after a walk is the order
pub walk_order : (ranks : Ranking) (h : History) (s : ObjectId) (xs zs : List ObjectId) → IsWalk ranks h s xs → In xs s → GoesOn ranks h s xs zs → IsOrder ranks h s zs
walk_order ranks h s xs zs begins s_in goes_on = absurd (let f : false ≡ true = s_in in cc)
walk_order ranks h s ys zs (goes xs ys' x is w nx) s_in goes_on = elim (started ranks h s xs w) as (λ _. IsOrder ranks h s zs) [
  | inl none ↦ subst (λ l. GoesOn ranks h s l zs) (is ∙ ap (λ l. l ++ x ∷ []) none ∙ ap (λ z. z ∷ []) (only_start h s x (subst (λ l. Open h s l x) none nx.0))) goes_on
  | inr k ↦ walk_order ranks h s xs zs w k (next xs zs x (open_unlisted h s xs x k nx.0) (λ d u. nx.1 d (unlisted_open h s xs d u)) (subst (λ l. GoesOn ranks h s l zs) is goes_on))
]

-- ---- there is one order at most
pub before_apart : (r : ObjectId → ℕ) (h : History) (c d : ObjectId) → IsBefore r h c d → IsBefore r h d c → ⊥
before_apart r h c d (inl a) (inl b) = absurd (omega (arith, ints))
before_apart r h c d (inl a) (inr b) = let e : time_of h d ≡ time_of h c = b.0 in let p : time_of h d <ℤ time_of h d = subst (λ z. time_of h d <ℤ z) (sym e) a in absurd (omega (arith, ints))
before_apart r h c d (inr a) (inl b) = let e : time_of h c ≡ time_of h d = a.0 in let p : time_of h c <ℤ time_of h c = subst (λ z. time_of h c <ℤ z) (sym e) b in absurd (omega (arith, ints))
before_apart r h c d (inr a) (inr b) = apart a.1 b.1
  where
    both : (o p : Ordering) → p ≡ ordering_reverse o → is_lt o ≡ true → is_lt p ≡ true → ⊥
    both Less p e x y = let z : false ≡ true = sym (ap is_lt e) ∙ y in cc
    both Equal p e x y = cc
    both Greater p e x y = cc

    apart : (r c < r d) ⊎ ((r c ≡ r d) × (is_lt (slice_cmp nat_cmp c.0 d.0) ≡ true)) → (r d < r c) ⊎ ((r d ≡ r c) × (is_lt (slice_cmp nat_cmp d.0 c.0) ≡ true)) → ⊥
    apart (inl x) (inl y) = absurd (omega arith)
    apart (inl x) (inr y) = absurd (let e : r d ≡ r c = y.0 in omega arith)
    apart (inr x) (inl y) = absurd (let e : r c ≡ r d = x.0 in omega arith)
    apart (inr x) (inr y) = both (slice_cmp nat_cmp c.0 d.0) (slice_cmp nat_cmp d.0 c.0) (nat_list_cmp_total.antisymm d.0 c.0) x.1 y.1

pub order_unique : (ranks : Ranking) (h : History) (s : ObjectId) (xs zs ws : List ObjectId) → GoesOn ranks h s xs zs → GoesOn ranks h s xs ws → zs ≡ ws
order_unique ranks h s xs zs ws (ended xs' none) b = by b none
  where
    by : {ws : List ObjectId} → GoesOn ranks h s xs ws → ((c : ObjectId) → ¬ IsUnlisted h xs c) → xs ≡ ws
    by (ended xs' n) none = refl
    by (next xs' zs' c u best rest) none = absurd (none c u)
order_unique ranks h s xs zs ws (next xs' zs' c u best rest) b = by b (λ ws k. order_unique ranks h s (xs ++ c ∷ []) zs ws rest k)
  where
    by : {ws : List ObjectId} → GoesOn ranks h s xs ws → ((ws : List ObjectId) → GoesOn ranks h s (xs ++ c ∷ []) ws → zs ≡ ws) → zs ≡ ws
    by (ended xs' none) again = absurd (none c u)
    by {ws = ws} (next xs' zs' d v first more) again = again ws (subst (λ z. GoesOn ranks h s (xs ++ z ∷ []) ws) same more)
      where
        same : d ≡ c
        same = elim (best d v) as (λ _. d ≡ c) [
          | inl is ↦ is
          | inr a ↦ elim (first c u) as (λ _. d ≡ c) [ inl is ↦ sym is | inr k ↦ absurd (before_apart (tie_rank ranks h s xs) h c d a k) ]
        ]

-- ---- a walk that goes on after a commit was put back
before_same : (r q : ObjectId → ℕ) (h : History) (c d : ObjectId) → r c ≡ q c → r d ≡ q d → IsBefore r h c d → IsBefore q h c d
before_same r q h c d e f (inl older) = inl older
before_same r q h c d e f (inr (same, inl less)) = inr (same, inl (omega (arith, e, f, less)))
before_same r q h c d e f (inr (same, inr tied)) = inr (same, inr (sym e ∙ tied.0 ∙ f, tied.1))

pub walk_again : (tie : Tie) (h : History) (s : ObjectId) (b : PutBack) (xs : List ObjectId) → length xs ≤ length b.0 → IsWalk (tie, None) h s xs → IsWalk (tie, Some b) h s xs
walk_again tie h s b xs le begins = begins
walk_again tie h s b ys le (goes xs ys' x is w nx) =
    let len : length ys ≡ length xs + 1 = ap length is ∙ length_push xs x in
    goes xs ys x is (walk_again tie h s b xs (omega arith) w) (
      nx.0,
      λ d o. elim (nx.1 d o) as (λ _. (d ≡ x) ⊎ IsBefore (tie_rank (tie, Some b) h s xs) h x d) [
        | inl same ↦ inl same
        | inr a ↦ inr (before_same (tie_rank (tie, None) h s xs) (tie_rank (tie, Some b) h s xs) h x d (again_before tie h s xs b (omega arith) x) (again_before tie h s xs b (omega arith) d) a)
      ],
    )

pub walk_take : (ranks : Ranking) (h : History) (s : ObjectId) (zs : List ObjectId) (k : ℕ) → IsWalk ranks h s zs → IsWalk ranks h s (take k zs)
walk_take ranks h s zs k begins = subst (λ l. IsWalk ranks h s l) (sym (take_none k)) begins
  where
    take_none : (k : ℕ) → take {A = ObjectId} k [] ≡ []
    take_none zero = refl
    take_none (suc k) = refl
walk_take ranks h s zs k (goes xs zs' x is w nx) =
    let len : length (xs ++ x ∷ []) ≡ length xs + 1 = length_push xs x in
    elim (cases_lt (length xs) k) as (λ _. IsWalk ranks h s (take k zs)) [
      | inr le ↦ subst (λ l. IsWalk ranks h s l) (sym (ap (take k) is ∙ take-append-le k xs (x ∷ []) le)) (walk_take ranks h s xs k w)
      | inl lt ↦ subst (λ l. IsWalk ranks h s l) (sym (ap (take k) is ∙ take_all k (xs ++ x ∷ []) (omega arith))) (goes xs (xs ++ x ∷ []) x refl w nx)
    ]

-- ---- there is an order
key_total : IsTotalOrder key_order
key_total = then_total (on_total (λ (k : Key). k.time) int_cmp_total)
    (then_total (back_total (on_total (λ (k : Key). k.rank) nat_cmp_total)) (back_total (on_total (λ (k : Key). k.id.0) nat_list_cmp_total)))

abbrev pub key : (ObjectId → ℕ) → History → ObjectId → Key
key r h c = key_at (time_of h c) (r c) c

gt_lt : (a b : Key) → is_lt (key_order a b) ≡ is_gt (key_order b a)
gt_lt a b = turned (key_order a b) (key_order b a) (key_total.antisymm b a)
  where
    turned : (o p : Ordering) → p ≡ ordering_reverse o → is_lt o ≡ is_gt p
    turned Less p e = sym (ap is_gt e)
    turned Equal p e = sym (ap is_gt e)
    turned Greater p e = sym (ap is_gt e)

pub greatest_of : (r : ObjectId → ℕ) (h : History) (y : ObjectId) (l : List ObjectId) → (x : ObjectId) × In (y ∷ l) x × ((d : ObjectId) → In (y ∷ l) d → is_lt (key_order (key r h x) (key r h d)) ≡ false)
greatest_of r h y [] = (y, one_of-head y [], λ d m. subst (λ z. is_lt (key_order (key r h y) (key r h z)) ≡ false) (sym (one_of-single y d m)) (ap is_lt (tied_itself key_total (key r h y))))
greatest_of r h y (z ∷ l) =
    let q = greatest_of r h z l in
    elim (is_lt (key_order (key r h q.0) (key r h y))) as (λ b. is_lt (key_order (key r h q.0) (key r h y)) ≡ b → (x : ObjectId) × In (y ∷ z ∷ l) x × ((d : ObjectId) → In (y ∷ z ∷ l) d → is_lt (key_order (key r h x) (key r h d)) ≡ false)) [
      | true ↦ λ e. (
        y,
        one_of-head y (z ∷ l),
        λ d m. elim (one_of-cons_cases y (z ∷ l) d m) as (λ _. is_lt (key_order (key r h y) (key r h d)) ≡ false) [
          | inl is ↦ subst (λ v. is_lt (key_order (key r h y) (key r h v)) ≡ false) (sym is) (ap is_lt (tied_itself key_total (key r h y)))
          | inr k ↦ gt_lt (key r h y) (key r h d) ∙ upto key_total (key r h d) (key r h q.0) (key r h y) (sym (gt_lt (key r h q.0) (key r h d)) ∙ q.2 d k) (less_not (key_order (key r h q.0) (key r h y)) e)
        ],
      )
      | false ↦ λ e. (
        q.0,
        one_of-tail y (z ∷ l) q.0 q.1,
        λ d m. elim (one_of-cons_cases y (z ∷ l) d m) as (λ _. is_lt (key_order (key r h q.0) (key r h d)) ≡ false) [
          | inl is ↦ subst (λ v. is_lt (key_order (key r h q.0) (key r h v)) ≡ false) (sym is) e
          | inr k ↦ q.2 d k
        ],
      )
    ] refl
  where
    less_not : (o : Ordering) → is_lt o ≡ true → is_gt o ≡ false
    less_not Less e = refl
    less_not Equal e = refl
    less_not Greater e = cc

-- the commits that may be open
edges_in : (h : History) (xs : List ObjectId) (c : ObjectId) → list_any (λ p. is_edge h p c) xs ≡ true → In (parents_of_all h xs) c
edges_in h [] c m = absurd (let f : false ≡ true = m in cc)
edges_in h (x ∷ xs) c m = elim (or_split (is_edge h x c) (list_any (λ p. is_edge h p c) xs) m) as (λ _. In (parents_of_all h (x ∷ xs)) c) [
  | inl e ↦ one_of-left (parents_in (entry_at h x)) (parents_of_all h xs) c (edge_from h x c e).0
  | inr r ↦ one_of-right (parents_in (entry_at h x)) (parents_of_all h xs) c (edges_in h xs c r)
]

module _ (ranks : Ranking) (h : History) (s : ObjectId) (xs : List ObjectId) (s_in : In xs s) where
  opens : (c : ObjectId) → Open h s xs c → In (filter (is_open h s xs) (parents_of_all h xs)) c
  opens c o = let u = open_unlisted h s xs c s_in o in one_of-filtered (is_open h s xs) (parents_of_all h xs) c (edges_in h xs c (edge_any h xs u.1 c u.2 u.3)) o

  -- no commit is open, or one comes first
  pub next_or_none : ((c : ObjectId) → ¬ Open h s xs c) ⊎ ((x : ObjectId) × IsNext ranks h s xs x)
  next_or_none = by (filter (is_open h s xs) (parents_of_all h xs)) refl
    where
      by : (l : List ObjectId) → filter (is_open h s xs) (parents_of_all h xs) ≡ l → ((c : ObjectId) → ¬ Open h s xs c) ⊎ ((x : ObjectId) × IsNext ranks h s xs x)
      by [] e = inl (λ c o. let f : false ≡ true = ap (λ l. is_one_of l c) (sym e) ∙ opens c o in cc)
      by (y ∷ l) e =
          let g = greatest_of (tie_rank ranks h s xs) h y l in
          let x_in : In (filter (is_open h s xs) (parents_of_all h xs)) g.0 = ap (λ k. is_one_of k g.0) e ∙ g.1 in
          inr (g.0, ((one_of-filter (is_open h s xs) (parents_of_all h xs) g.0 x_in).1, λ d o. order_key g.0 d (time_of h g.0) (time_of h d) (tie_rank ranks h s xs g.0) (tie_rank ranks h s xs d) (g.2 d (ap (λ k. is_one_of k d) (sym e) ∙ opens d o))))

pub order_goes : (ranks : Ranking) (h : History) (s : ObjectId) (n : ℕ) (xs : List ObjectId) → Has h s → IsWalk ranks h s xs → In xs s → length h ≤ length xs + n → (zs : List ObjectId) × GoesOn ranks h s xs zs
order_goes ranks h s zero xs has w s_in room = elim (next_or_none ranks h s xs s_in) as (λ _. (zs : List ObjectId) × GoesOn ranks h s xs zs) [
  | inl none ↦ (xs, ended xs (λ c u. none c (unlisted_open h s xs c u)))
  | inr r ↦
      let more = bounded ranks h s (xs ++ r.0 ∷ []) (goes_more ranks h s xs r.0 w r.1) has in
      let len : length (xs ++ r.0 ∷ []) ≡ length xs + 1 = length_push xs r.0 in
      absurd (omega (arith, more))
]
order_goes ranks h s (suc n) xs has w s_in room = elim (next_or_none ranks h s xs s_in) as (λ _. (zs : List ObjectId) × GoesOn ranks h s xs zs) [
  | inl none ↦ (xs, ended xs (λ c u. none c (unlisted_open h s xs c u)))
  | inr r ↦
      let len : length (xs ++ r.0 ∷ []) ≡ length xs + 1 = length_push xs r.0 in
      let rest = order_goes ranks h s n (xs ++ r.0 ∷ []) has (goes_more ranks h s xs r.0 w r.1) (one_of-left xs (r.0 ∷ []) s s_in) (omega arith) in
      (rest.0, next xs rest.0 r.0 (open_unlisted h s xs r.0 s_in r.1.0) (λ d u. r.1.1 d (unlisted_open h s xs d u)) rest.1)
]

-- a walk that has popped its start is the first part of the order
pub record IsPrefix (ranks : Ranking) (h : History) (s : ObjectId) (xs : List ObjectId) : Type 0 where
  pub order : List ObjectId
  pub order_is : IsOrder ranks h s order
  pub goes_on : GoesOn ranks h s xs order
  pub rest : List ObjectId
  pub splits : order ≡ xs ++ rest

pub walk_prefix : (ranks : Ranking) (h : History) (s : ObjectId) (xs : List ObjectId) → Has h s → IsWalk ranks h s xs → In xs s → IsPrefix ranks h s xs
walk_prefix ranks h s xs has w s_in =
    let r = order_goes ranks h s (length h) xs has w s_in (omega arith) in
    let split = goes_on_from ranks h s xs r.0 r.1 in
    record { order = r.0; order_is = walk_order ranks h s xs r.0 w s_in r.1; goes_on = r.1; rest = split.0; splits = split.1 }

-- a mark is a rising path by popped commits
pub exact_of : (ranks : Ranking) (h : History) (s t : ObjectId) (zs xs rest : List ObjectId) → Has h s → IsWalk ranks h s xs → In xs t → zs ≡ xs ++ rest → Exact h zs xs t (Marked h t xs) (late_of h t xs)
exact_of ranks h s t zs xs rest has begins m is_zs = absurd (let f : false ≡ true = m in cc)
exact_of ranks h s t zs ys rest has (goes xs ys' x is w nx) m is_zs =
    subst (λ l. Exact h zs l t (Marked h t l) (late_of h t l)) (sym is) (elim (one_of-cases xs (x ∷ []) t (ap (λ l. is_one_of l t) (sym is) ∙ m)) as (λ _. Exact h zs (xs ++ x ∷ []) t (Marked h t (xs ++ x ∷ [])) (late_of h t (xs ++ x ∷ []))) [
      | inl k ↦ more (exact_of ranks h s t zs xs (x ∷ rest) has w k whole)
      | inr k ↦ subst (λ z. Exact h zs (xs ++ x ∷ []) z (Marked h z (xs ++ x ∷ [])) (late_of h z (xs ++ x ∷ []))) (sym (one_of-single x t k)) first
    ])
  where
    whole : zs ≡ xs ++ (x ∷ rest)
    whole = is_zs ∙ ap (λ l. l ++ rest) is ∙ append_assoc xs (x ∷ []) rest

    out : ¬ In xs x
    out = open_out h s xs x nx.0

    kept : (t c : ObjectId) → Marked h t xs c → Marked h t (xs ++ x ∷ []) c
    kept t c k = marked_more h (same_id t) xs x c ∙ or_left _ _ k

    only : (t c : ObjectId) → Marked h t (xs ++ x ∷ []) c → Marked h t xs c ⊎ (Marked h t xs x × IsEdge h x c)
    only t c k = elim (or_split (has_mark h t xs c) (has_mark h t xs x && is_edge h x c) (sym (marked_more h (same_id t) xs x c) ∙ k)) as (λ _. Marked h t xs c ⊎ (Marked h t xs x × IsEdge h x c)) [
      | inl l ↦ inl l
      | inr r ↦ inr (and_left _ _ r, edge_from h x c (and_right (has_mark h t xs x) _ r))
    ]

    parents : (t b : ObjectId) → Marked h t xs x → IsEdge h x b → Marked h t (xs ++ x ∷ []) b
    parents t b k e = marked_more h (same_id t) xs x b ∙ or_right _ _ (both _ _ k (edge_is h x b e))

    more : Exact h zs xs t (Marked h t xs) (late_of h t xs) → Exact h zs (xs ++ x ∷ []) t (Marked h t (xs ++ x ∷ [])) (late_of h t (xs ++ x ∷ []))
    more one = elim (has_mark h t xs x) as (λ b. has_mark h t xs x ≡ b → Exact h zs (xs ++ x ∷ []) t (Marked h t (xs ++ x ∷ [])) (late_of h t (xs ++ x ∷ []))) [
      | true ↦ λ e. subst (λ l. Exact h zs (xs ++ x ∷ []) t (Marked h t (xs ++ x ∷ [])) l) (sym (late_more h (same_id t) xs x ∙ ap (λ b. late_of h t xs ++ cond b [] (x ∷ [])) e ∙ append-nil (late_of h t xs)))
          (exact_marked h zs xs rest x whole out t (Marked h t xs) (Marked h t (xs ++ x ∷ [])) (late_of h t xs) one (kept t) (only t) (λ c k f. parents t c k f) e)
      | false ↦ λ e. subst (λ l. Exact h zs (xs ++ x ∷ []) t (Marked h t (xs ++ x ∷ [])) l) (sym (late_more h (same_id t) xs x ∙ ap (λ b. late_of h t xs ++ cond b [] (x ∷ [])) e))
          (exact_late h zs xs rest x whole out t (Marked h t xs) (Marked h t (xs ++ x ∷ [])) (late_of h t xs) one (kept t) (only t) (λ c k f. parents t c k f) (λ k. let f : true ≡ false = sym k ∙ e in cc))
    ] refl

    own : Marked h x xs x
    own = mark_fresh h x xs (absent xs x out) x ∙ same_id-itself x

    first : Exact h zs (xs ++ x ∷ []) x (Marked h x (xs ++ x ∷ [])) (late_of h x (xs ++ x ∷ []))
    first = subst (λ l. Exact h zs (xs ++ x ∷ []) x (Marked h x (xs ++ x ∷ [])) l)
        (sym (late_more h (same_id x) xs x ∙ ap (λ b. late_of h x xs ++ cond b [] (x ∷ [])) own ∙ append-nil (late_of h x xs) ∙ late_fresh h x xs (absent xs x out)))
        (exact_begins h zs xs rest x whole out (Marked h x (xs ++ x ∷ [])) (λ c e. parents x c own e)
        (λ c k. elim (only x c k) as (λ _. (c ≡ x) ⊎ IsEdge h x c) [ inl l ↦ inl (sym (same_id-true x c (sym (mark_fresh h x xs (absent xs x out) c) ∙ l))) | inr r ↦ inr r.1 ]))

-- the count over the first places of the order
pub late_there : (ranks : Ranking) (h : History) (s t : ObjectId) (zs xs rest : List ObjectId) → Has h s → IsWalk ranks h s xs → In xs t → zs ≡ xs ++ rest → IsLate h zs t (length xs) (length (late_of h t xs))
late_there ranks h s t zs xs rest has w m is =
    let e = exact_of ranks h s t zs xs rest has w m is in
    let one = counted_of ranks h s t xs has w m in
    let first : take (length xs) zs ≡ xs = ap (take (length xs)) is ∙ take-append-le (length xs) xs rest (omega arith) ∙ take_all (length xs) xs (omega arith) in (
      late_of h t xs,
      (
        one.once,
        λ c. (
          (λ k. (ap (λ l. is_one_of l c) first ∙ one.within c k, e.late_not c k)),
          (λ k. elim (e.on_time c (ap (λ l. is_one_of l c) (sym first) ∙ k.0)) as (λ _. In (late_of h t xs) c) [ inl l ↦ l | inr q ↦ absurd (k.1 q) ]),
        ),
      ),
      refl,
    )

-- once all that is left has the mark, the count is that over all places
pub late_final : (ranks : Ranking) (h : History) (s t : ObjectId) (zs xs rest : List ObjectId) → Has h s → IsWalk ranks h s xs → In xs t → In xs s → zs ≡ xs ++ rest → GoesOn ranks h s xs zs → ((c : ObjectId) → Open h s xs c → Marked h t xs c)
    → IsLate h zs t (length zs) (length (late_of h t xs))
late_final ranks h s t zs xs rest has w m s_in is goes_on left =
    let one = counted_of ranks h s t xs has w m in
    count_is_final ranks h s xs zs t (Marked h t xs) (late_of h t xs) goes_on (exact_of ranks h s t zs xs rest has w m is) (λ c u. left c (unlisted_open h s xs c u)) one.once one.within
