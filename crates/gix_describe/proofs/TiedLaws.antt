-- There is one fixed answer at most, and it lies between the counts.
use Rattle.std.proofs.Common.{◌≡◌, ℕ, zero, suc, Bool, true, false, cond, ◌||◌, refl, ap, sym, subst, ◌∙◌, List, [], ◌∷◌, ◌++◌, ◌⊎◌, inl, inr, IsTrue, get_or, length, take, Some, None, ◌≤◌, ◌<◌, ◌+◌, ◌-◌, arith, append_assoc}
use Rattle.std.specs.Ordering.{nat_cmp, ordering_reverse, is_lt}
use Rattle.std.specs.Cmp.Lexicographic.{slice_cmp}
use Rattle.std.specs.declared.cmp.Ordering.{Ordering}
use Rattle.std.specs.declared.cmp.Ordering.TheVariants.{Less, Equal, Greater}
use Rattle.std.proofs.lemmas.Cmp.{nat_list_cmp_total}
use Rattle.std.proofs.lemmas.List.{length_push, take_all, take-append-le, get_or_push, get_or_append_left, get_or_default, length-take-le, append-nil}
use Rattle.std.proofs.lemmas.Map.Keys.{IsDistinct-push}
use Rattle.gix_base.specs.declared.hash.ObjectId.{ObjectId}
use Rattle.gix_revwalk.specs.History.{History, same_id, is_one_of, Has, IsAncestor}
use Rattle.gix_revwalk.specs.Sizes.{Lists, HasSize, AtMost}
use Rattle.gix_revwalk.proofs.Ids.{same_id-laws, same_id-true}
use Rattle.gix_revwalk.proofs.Members.{one_of-left, one_of-right, one_of-cases, one_of-single, one_of-head, one_of-tail, one_of-cons_cases}
use Rattle.gix_describe.specs.declared.describe.options.Tie.{Tie}
use Rattle.gix_describe.specs.declared.describe.options.Tie.TheVariants.{ById, ByMeeting}
use Rattle.gix_describe.specs.Ahead.{IsAheadOf, ParentsAreOlder}
use Rattle.gix_describe.specs.Described.{Names, name_at, IsNamed, IsNamedAncestor, IsLeastAhead, IsNamedBy}
use Rattle.gix_describe.specs.Order.{Ranking, GoesOn, GoesPast, IsOrder, Reaches, IsLate, Stands, IsFewest, EndsAt, IsFullAt, IsCut, IsCompleted, IsPast, IsPreferred, IsTied, place}
use Rattle.gix_describe.specs.Order.GoesOn.{ended, next}
use Rattle.gix_describe.specs.Trace.{late_of, IsWalk}
use Rattle.gix_describe.specs.Trace.IsWalk.{begins, goes}
use Rattle.gix_describe.proofs.Counts.{size_one, ahead_size}
use Rattle.gix_describe.proofs.Sizes.{ancestors_size}
use Rattle.gix_describe.proofs.Early.{In, absent}
use Rattle.gix_describe.proofs.EarlyEnds.{count_deeper}
use Rattle.gix_describe.proofs.EarlyAnswer.{early_answer}
use Rattle.gix_describe.proofs.Orders.{order_walked, order_lists, late_low, late_high, in_take}
use Rattle.gix_describe.proofs.Traces.{Open, Marked, open_out, popped_of, counted_of}
use Rattle.gix_describe.proofs.WalkQueue.{only_start}
use Rattle.gix_describe.proofs.WalkSteps.{left_marked}
use Rattle.gix_describe.proofs.WalkEnds.{start_open}
use Rattle.gix_describe.proofs.OrderWalks.{walk_prefix, walk_again, walk_take, order_unique, unlisted_open, open_unlisted, late_there, late_final}
use Rattle.gix_describe.proofs.Cuts.{LastOf, walk_part, completed_from}
use Rattle.gix_describe.proofs.Tied.{some_in}

-- ---- there is one at most
lt_apart : (a b : List ℕ) → IsTrue (is_lt (slice_cmp nat_cmp a b)) → IsTrue (is_lt (slice_cmp nat_cmp b a)) → ⊥
lt_apart a b x y = by (slice_cmp nat_cmp a b) (slice_cmp nat_cmp b a) (nat_list_cmp_total.antisymm a b) x y
  where
    by : (p q : Ordering) → p ≡ ordering_reverse q → IsTrue (is_lt p) → IsTrue (is_lt q) → ⊥
    by Less Less e x y = cc
    by Less Equal e x y = let f : false ≡ true = y in cc
    by Less Greater e x y = let f : false ≡ true = y in cc
    by Equal q e x y = let f : false ≡ true = x in cc
    by Greater q e x y = let f : false ≡ true = x in cc

-- two that stand at one place are one
place_one : (xs : List ObjectId) (t u : ObjectId) → In xs t → In xs u → place xs t ≡ place xs u → t ≡ u
place_one [] t u m n e = absurd (let f : false ≡ true = m in cc)
place_one (x ∷ xs) t u m n e = by (place_one xs t u) (same_id t x) (same_id u x) refl refl m n e
  where
    by : (In xs t → In xs u → place xs t ≡ place xs u → t ≡ u) → (a b : Bool) → same_id t x ≡ a → same_id u x ≡ b → (a || is_one_of xs t) ≡ true → (b || is_one_of xs u) ≡ true → cond a 0 (place xs t + 1) ≡ cond b 0 (place xs u + 1) → t ≡ u
    by rest true true i j m n e = same_id-true t x i ∙ sym (same_id-true u x j)
    by rest true false i j m n e = absurd (omega arith)
    by rest false true i j m n e = absurd (omega arith)
    by rest false false i j m n e = rest m n (omega arith)

preferred_one : (tie : Tie) (names : Names) (xs : List ObjectId) (t u : ObjectId) → IsNamed names t → IsNamed names u → In xs t → In xs u → IsPreferred tie names xs t u → IsPreferred tie names xs u t → t ≡ u
preferred_one ByMeeting names xs t u a b m n p q = place_one xs t u m n (let x : place xs t ≤ place xs u = p in let y : place xs u ≤ place xs t = q in omega arith)
preferred_one ById names xs t u a b m n p q = elim (p a.0 b.0 a.1 b.1) as (λ _. t ≡ u) [
  | inl less ↦ absurd (elim (q b.0 a.0 b.1 a.1) as (λ _. ⊥) [ inl more ↦ lt_apart a.0 b.0 less more | inr k ↦ let x = subst (λ z. IsTrue (is_lt (slice_cmp nat_cmp a.0 z))) k.0 less in lt_apart a.0 a.0 x x ])
  | inr k ↦ elim k.1 as (λ _. t ≡ u) [
    | inr same ↦ same
    | inl less ↦ elim (q b.0 a.0 b.1 a.1) as (λ _. t ≡ u) [
      | inl more ↦ let y = subst (λ z. IsTrue (is_lt (slice_cmp nat_cmp b.0 z))) k.0 more in absurd (lt_apart b.0 b.0 y y)
      | inr l ↦ elim l.1 as (λ _. t ≡ u) [ inl more ↦ absurd (lt_apart t.0 u.0 less more) | inr same ↦ sym same ]
    ]
  ]
]

-- past one cut, as many are seen
past_le : (h : History) (t : ObjectId) (zs : List ObjectId) (cut m n : ℕ) → IsPast h zs t cut m → IsPast h zs t cut n → m ≤ n
past_le h t zs cut m n a b =
    let far : cut < n = b.0 in
    let short : m ≤ length zs = a.1 in
    elim b.2 as (λ _. m ≤ n) [ inl done ↦ a.3 n far done | inr end ↦ omega (arith, end) ]

-- one place has one commit
stands_one : (xs : List ObjectId) (k : ℕ) (x y : ObjectId) → Stands xs k x → Stands xs k y → x ≡ y
stands_one xs k x y a b = sym a.2 ∙ get_or_default xs (k - 1) x y (omega (arith, a.0, a.1)) ∙ b.2

pub tied_unique : (tie : Tie) (h : History) (s : ObjectId) (names : Names) (cap : ℕ) (t u : ObjectId) (d e m n : ℕ) → IsTied tie h s names cap t d m → IsTied tie h s names cap u e n → (t ≡ u) × (d ≡ e) × (m ≡ n)
tied_unique tie h s names cap t u d e m n a b = let r = rest a.seen_is b.seen_is in (is, r.0, r.1)
  where
    same : a.order ≡ b.order
    same = order_unique (tie, None) h s (s ∷ []) a.order b.order a.order_is b.order_is

    cut_b : IsCut tie h names a.order cap b.cut
    cut_b = subst (λ l. IsCut tie h names l cap b.cut) (sym same) b.cut_is

    cuts : a.cut ≡ b.cut
    cuts =
        let le : a.cut ≤ b.cut = a.cut_is.2 b.cut cut_b.0 cut_b.1 in
        let ge : b.cut ≤ a.cut = cut_b.2 a.cut a.cut_is.0 a.cut_is.1 in
        omega arith

    few_b : IsFewest h names a.order a.cut u
    few_b = subst (λ l. IsFewest h names l a.cut u) (sym same) (subst (λ k. IsFewest h names b.order k u) (sym cuts) b.fewest)

    few_a : IsFewest h names b.order b.cut t
    few_a = subst (λ l. IsFewest h names l b.cut t) same (subst (λ k. IsFewest h names a.order k t) cuts a.fewest)

    is : t ≡ u
    is = preferred_one tie names a.order t u a.fewest.0.1 b.fewest.0.1 (in_take a.order a.cut t a.fewest.0.0) (in_take a.order a.cut u few_b.0.0) (a.preferred u few_b) (subst (λ l. IsPreferred tie names l u t) (sym same) (b.preferred t few_a))

    ends_b : EndsAt tie h names b.order b.cut → EndsAt tie h names a.order a.cut
    ends_b st = subst (λ l. EndsAt tie h names l a.cut) (sym same) (subst (λ k. EndsAt tie h names b.order k) (sym cuts) st)

    ends_a : EndsAt tie h names a.order a.cut → EndsAt tie h names b.order b.cut
    ends_a st = subst (λ l. EndsAt tie h names l b.cut) same (subst (λ k. EndsAt tie h names a.order k) cuts st)

    depths : a.course ≡ b.course → d ≡ e
    depths one =
        let late_b : IsLate h a.course t (length a.course) e = subst (λ z. IsLate h a.course z (length a.course) e) (sym is) (subst (λ l. IsLate h l u (length l) e) (sym one) b.depth_is) in
        size_one (λ c. IsTrue (is_one_of (take (length a.course) a.course) c) × (¬ Reaches h a.course t c)) d e a.depth_is late_b

    rest : (EndsAt tie h names a.order a.cut × (a.course ≡ a.order) × (m ≡ a.cut)) ⊎ ((¬ EndsAt tie h names a.order a.cut) × GoesPast tie h s a.order a.cut a.course × IsPast h a.course t a.cut m)
        → (EndsAt tie h names b.order b.cut × (b.course ≡ b.order) × (n ≡ b.cut)) ⊎ ((¬ EndsAt tie h names b.order b.cut) × GoesPast tie h s b.order b.cut b.course × IsPast h b.course u b.cut n) → (d ≡ e) × (m ≡ n)
    rest (inl x) (inl y) = (depths (x.1 ∙ same ∙ sym y.1), x.2 ∙ cuts ∙ sym y.2)
    rest (inl x) (inr y) = absurd (y.0 (ends_a x.0))
    rest (inr x) (inl y) = absurd (x.0 (ends_b y.0))
    rest (inr x) (inr y) =
        let stood : Stands a.order (a.cut + 1) y.1.0 = subst (λ l. Stands l (a.cut + 1) y.1.0) (sym same) (subst (λ k. Stands b.order (k + 1) y.1.0) (sym cuts) y.1.1) in
        let back : x.1.0 ≡ y.1.0 = stands_one a.order (a.cut + 1) x.1.0 y.1.0 x.1.1 stood in
        let first : take b.cut b.order ≡ take a.cut a.order = ap (λ k. take k b.order) (sym cuts) ∙ ap (take a.cut) (sym same) in
        let other : IsOrder (tie, Some (take a.cut a.order, x.1.0)) h s b.course = subst (λ z. IsOrder (tie, Some (take a.cut a.order, z)) h s b.course) (sym back) (subst (λ l. IsOrder (tie, Some (l, y.1.0)) h s b.course) first y.1.2) in
        let one : a.course ≡ b.course = order_unique (tie, Some (take a.cut a.order, x.1.0)) h s (s ∷ []) a.course b.course x.1.2 other in
        let past : IsPast h a.course t a.cut n = subst (λ z. IsPast h a.course z a.cut n) (sym is) (subst (λ l. IsPast h l u a.cut n) (sym one) (subst (λ k. IsPast h b.course u k n) (sym cuts) y.2)) in
        let up : m ≤ n = past_le h t a.course a.cut m n x.2 past in
        let down : n ≤ m = past_le h t a.course a.cut n m past x.2 in
        (depths one, omega arith)

-- ---- the order is a walk
walk_on : (ranks : Ranking) (h : History) (s : ObjectId) (xs zs : List ObjectId) → GoesOn ranks h s xs zs → IsWalk ranks h s xs → In xs s → IsWalk ranks h s zs
walk_on ranks h s xs zs (ended xs' n) w m = w
walk_on ranks h s xs zs (next xs' zs' c u best more) w m =
    walk_on ranks h s (xs ++ c ∷ []) zs more (goes xs (xs ++ c ∷ []) c refl w (unlisted_open h s xs c u, λ d o. best d (open_unlisted h s xs d m o))) (one_of-left xs (c ∷ []) s m)

order_walk : (ranks : Ranking) (h : History) (s : ObjectId) (zs : List ObjectId) → IsOrder ranks h s zs → IsWalk ranks h s zs
order_walk ranks h s zs order = walk_on ranks h s (s ∷ []) zs order (goes [] (s ∷ []) s refl begins (start_open h s [] refl, λ d o. inl (only_start h s d o))) (one_of-head s [])

none_left : (ranks : Ranking) (h : History) (s : ObjectId) (xs zs : List ObjectId) → GoesOn ranks h s xs zs → In xs s → (c : ObjectId) → ¬ Open h s zs c
none_left ranks h s xs zs (ended xs' n) m c o = n c (open_unlisted h s xs c m o)
none_left ranks h s xs zs (next xs' zs' x u best more) m c o = none_left ranks h s (xs ++ x ∷ []) zs more (one_of-left xs (x ∷ []) s m) c o

record SplitOf (xs : List ObjectId) (i : ℕ) : Type 0 where
  pub ys : List ObjectId
  pub x : ObjectId
  pub more : List ObjectId
  pub is : xs ≡ ys ++ (x ∷ more)
  pub at : length ys ≡ i

split_of : (xs : List ObjectId) (i : ℕ) → i < length xs → SplitOf xs i
split_of [] i l = absurd (omega arith)
split_of (x ∷ xs) zero l = record { ys = []; x = x; more = xs; is = refl; at = refl }
split_of (x ∷ xs) (suc i) l =
    let r = split_of xs i (omega arith) in
    record { ys = x ∷ r.ys; x = r.x; more = r.more; is = ap (λ k. x ∷ k) r.is; at = ap suc r.at }

-- ---- a first part of the order, all that is left of which has the mark of t
record Reaching (ranks : Ranking) (h : History) (s t : ObjectId) (zs : List ObjectId) (k : ℕ) : Type 0 where
  pub P : List ObjectId
  pub walk : IsWalk ranks h s P
  pub len : length P ≡ k
  pub first : take k zs ≡ P
  pub rest : List ObjectId
  pub is : zs ≡ P ++ rest
  pub left : (c : ObjectId) → Open h s P c → Marked h t P c

module _ (ranks : Ranking) (h : History) (s : ObjectId) (has : Has h s) (zs : List ObjectId) (order : IsOrder ranks h s zs) where
  walk : IsWalk ranks h s zs
  walk = order_walk ranks h s zs order

  reaching_end : (t : ObjectId) (k : ℕ) → k ≡ length zs → Reaching ranks h s t zs k
  reaching_end t k e = record {
    P = zs;
    walk = walk;
    len = sym e;
    first = take_all k zs (omega (arith, e));
    rest = [];
    is = sym (append-nil zs);
    left = λ c o. absurd (none_left ranks h s (s ∷ []) zs order (one_of-head s []) c o);
  }

  reaching_done : (t : ObjectId) (k : ℕ) → 1 ≤ k → k ≤ length zs → IsCompleted h zs t k → Reaching ranks h s t zs k
  reaching_done t k some short done =
      let r = split_of zs (k - 1) (omega arith) in
      let one : length r.ys + 1 ≡ k = let e : length r.ys ≡ k - 1 = r.at in omega arith in
      let last : LastOf ranks h s r.ys r.x = walk_part ranks h s zs r.ys r.more r.x walk r.is in
      let c = completed_from ranks h s [] zs r.ys r.more r.x has last r.is t (subst (λ n. IsCompleted h zs t n) (sym one) done) in
      let pushed : length (r.ys ++ r.x ∷ []) ≡ length r.ys + 1 = length_push r.ys r.x in
      let whole : zs ≡ (r.ys ++ r.x ∷ []) ++ r.more = r.is ∙ sym (append_assoc r.ys (r.x ∷ []) r.more) in
      record {
        P = r.ys ++ r.x ∷ [];
        walk = goes r.ys (r.ys ++ r.x ∷ []) r.x refl last.walk last.next;
        len = pushed ∙ one;
        first = ap (take k) whole ∙ take-append-le k (r.ys ++ r.x ∷ []) r.more (omega arith) ∙ take_all k (r.ys ++ r.x ∷ []) (omega arith);
        rest = r.more;
        is = whole;
        left = λ d o. left_marked h s r.ys r.x t c.left c.own d o;
      }

  module _ (t : ObjectId) (k : ℕ) (r : Reaching ranks h s t zs k) (t_in : In (take k zs) t) where
    own : In r.P t
    own = ap (λ l. is_one_of l t) (sym r.first) ∙ t_in

    s_in : In r.P s
    s_in = some_in ranks h s t r.P r.walk own

    goes_on : GoesOn ranks h s r.P zs
    goes_on =
        let p = walk_prefix ranks h s r.P has r.walk s_in in
        subst (λ l. GoesOn ranks h s r.P l) (order_unique ranks h s (s ∷ []) p.order zs p.order_is order) p.goes_on

    depth_at : (depth : ℕ) → IsLate h zs t (length zs) depth → depth ≡ length (late_of h t r.P)
    depth_at depth late = size_one (λ c. IsTrue (is_one_of (take (length zs) zs) c) × (¬ Reaches h zs t c)) depth (length (late_of h t r.P)) late (late_final ranks h s t zs r.P r.rest has r.walk own s_in r.is goes_on r.left)

    deeper_at : (depth : ℕ) → IsLate h zs t (length zs) depth → depth < k
    deeper_at depth late =
        let is : depth ≡ length (late_of h t r.P) = depth_at depth late in
        let less : length (late_of h t r.P) < length r.P = count_deeper h s r.P (Open h s r.P) (popped_of ranks h s r.P has r.walk) t (Marked h t r.P) (late_of h t r.P) (counted_of ranks h s t r.P has r.walk own) in
        let len : length r.P ≡ k = r.len in
        omega arith

    least_at : (names : Names) (cap depth : ℕ) (name : List ℕ) → name_at names t ≡ Some name → IsLate h zs t (length zs) depth → IsFewest h names zs k t → ParentsAreOlder h s → AtMost cap (IsNamedAncestor h s names) → IsLeastAhead h s names depth
    least_at names cap depth name named late few older fit =
        let answer = early_answer h s t names cap name r.P (Open h s r.P) (Marked h t r.P) (late_of h t r.P) (popped_of ranks h s r.P has r.walk) (counted_of ranks h s t r.P has r.walk own) (λ q o. r.left q o) named
        (λ f u m u_named. record {
          Marked = Marked h u r.P;
          late = late_of h u r.P;
          counted = counted_of ranks h s u r.P has r.walk m;
          more = few.1 u (length (late_of h t r.P)) (length (late_of h u r.P)) (ap (λ l. is_one_of l u) r.first ∙ m, u_named)
              (subst (λ n. IsLate h zs t n (length (late_of h t r.P))) r.len (late_there ranks h s t zs r.P r.rest has r.walk own r.is))
              (subst (λ n. IsLate h zs u n (length (late_of h u r.P))) r.len (late_there ranks h s u zs r.P r.rest has r.walk m r.is));
        }) in
        subst (λ n. IsLeastAhead h s names n) (sym (depth_at depth late)) (answer.exact older fit)

  -- where there is no room for one more, too many are named
  full_many : (names : Names) (cap k : ℕ) → IsFullAt names zs cap k → ¬ AtMost cap (IsNamedAncestor h s names)
  full_many names cap k full fit =
      let st : Stands zs (k + 1) full.1 = full.2 in
      let r = split_of zs k (omega (arith, st.1)) in
      let last : LastOf ranks h s r.ys r.x = walk_part ranks h s zs r.ys r.more r.x walk r.is in
      let at : length r.ys ≡ k = r.at in
      let first : take k zs ≡ r.ys = ap (take k) r.is ∙ take-append-le k r.ys (r.x ∷ r.more) (omega arith) ∙ take_all k r.ys (omega arith) in
      let c = full.1 in
      let same : c ≡ r.x = sym st.2 ∙ ap (λ n. get_or zs n c) (minus k) ∙ ap (λ l. get_or l k c) r.is ∙ seam r.ys r.x r.more c k at in
      let l = full.0.0 in
      let out : ¬ In l c = λ m. open_out h s r.ys r.x last.next.0 (subst (λ z. In r.ys z) same (ap (λ v. is_one_of v c) (sym first) ∙ (full.0.2 c m).0)) in
      let inside : In zs c = ap (λ v. is_one_of v c) r.is ∙ subst (λ z. In (r.ys ++ (r.x ∷ r.more)) z) (sym same) (one_of-right r.ys (r.x ∷ r.more) r.x (one_of-head r.x r.more)) in
      let lists = order_lists h s zs (order_walked ranks h s zs has order) in
      let le : length (l ++ c ∷ []) ≤ cap = fit (l ++ c ∷ []) (IsDistinct-push same_id-laws l c full.0.1 (absent l c out)) (λ d m. elim (one_of-cases l (c ∷ []) d m) as (λ _. IsNamedAncestor h s names d) [
        | inl i ↦ let q = full.0.2 d i in ((lists.1 d).0 (in_take zs k d q.0), q.1)
        | inr i ↦ subst (λ z. IsNamedAncestor h s names z) (sym (one_of-single c d i)) ((lists.1 c).0 inside, full.3)
      ]) in
      let more : length (l ++ c ∷ []) ≡ length l + 1 = length_push l c in
      let enough : cap ≤ length l = full.0.3 in
      absurd (omega arith)
    where
      minus : (n : ℕ) → (n + 1) - 1 ≡ n
      minus n = omega arith

      seam : (u : List ObjectId) (z : ObjectId) (v : List ObjectId) (d : ObjectId) (n : ℕ) → length u ≡ n → get_or (u ++ (z ∷ v)) n d ≡ z
      seam u z v d n e = ap (λ l. get_or l n d) (sym (append_assoc u (z ∷ []) v)) ∙ get_or_append_left (u ++ z ∷ []) v d n (let k : length (u ++ z ∷ []) ≡ length u + 1 = length_push u z in omega arith) ∙ get_or_push u z d n e

in_longer : (xs : List ObjectId) (j k : ℕ) (c : ObjectId) → j ≤ k → In (take j xs) c → In (take k xs) c
in_longer xs zero k c le m = absurd (let f : false ≡ true = m in cc)
in_longer [] (suc j) k c le m = absurd (let f : false ≡ true = m in cc)
in_longer (x ∷ xs) (suc j) zero c le m = absurd (omega arith)
in_longer (x ∷ xs) (suc j) (suc k) c le m = elim (one_of-cons_cases x (take j xs) c m) as (λ _. In (x ∷ take k xs) c) [
  | inl is ↦ subst (λ z. In (z ∷ take k xs) c) is (one_of-head c (take k xs))
  | inr r ↦ one_of-tail x (take k xs) c (in_longer xs j k c (omega arith) r)
]

module _ (tie : Tie) (h : History) (s : ObjectId) (names : Names) (cap : ℕ) (t : ObjectId) (depth seen : ℕ) (has : Has h s) (a : IsTied tie h s names cap t depth seen) where
  abbrev zs : List ObjectId
  zs = a.order

  filled : 1 ≤ length zs
  filled = by zs (in_take zs a.cut t a.fewest.0.0)
    where
      by : (l : List ObjectId) → In l t → 1 ≤ length l
      by [] m = absurd (let f : false ≡ true = m in cc)
      by (x ∷ l) m = omega arith

  cut_short : a.cut ≤ length zs
  cut_short = a.cut_is.2 (length zs) filled (inr (inr refl))

  at_cut : EndsAt tie h names zs a.cut → Reaching (tie, None) h s t zs a.cut
  at_cut (inl st) = reaching_done (tie, None) h s has zs a.order_is t a.cut a.cut_is.0 cut_short (st.2 t a.fewest)
  at_cut (inr e) = reaching_end (tie, None) h s has zs a.order_is t a.cut e

  -- the walk past the cut begins as the order does
  begins_alike : (x : ObjectId) → IsOrder (tie, Some (take a.cut zs, x)) h s a.course → take a.cut a.course ≡ take a.cut zs
  begins_alike x course_is =
      let P = take a.cut zs in
      let w : IsWalk (tie, Some (P, x)) h s P = walk_again tie h s (P, x) P (omega arith) (walk_take (tie, None) h s zs a.cut (order_walk (tie, None) h s zs a.order_is)) in
      let p = walk_prefix (tie, Some (P, x)) h s P has w (some_in (tie, Some (P, x)) h s t P w a.fewest.0.0) in
      let len : length P ≡ a.cut = length-take-le a.cut zs cut_short in
      let same : p.order ≡ a.course = order_unique (tie, Some (P, x)) h s (s ∷ []) p.order a.course p.order_is course_is in
      ap (take a.cut) (sym same ∙ p.splits) ∙ take-append-le a.cut P p.rest (omega arith) ∙ take_all a.cut P (omega arith)

  -- what the walk that ends, or goes on, says of the answer
  record Course : Type 0 where
    pub ranks : Ranking
    pub is : IsOrder ranks h s a.course
    pub deeper : depth < seen
    pub short : seen ≤ length a.course

  in_order : Course
  in_order = elim a.seen_is as (λ _. Course) [
    | inl e ↦
        let late : IsLate h zs t (length zs) depth = subst (λ l. IsLate h l t (length l) depth) e.1 a.depth_is in
        let less : depth < a.cut = deeper_at (tie, None) h s has zs a.order_is t a.cut (at_cut e.0) a.fewest.0.0 depth late in
        let is : seen ≡ a.cut = e.2 in
        let long : length a.course ≡ length zs = ap length e.1 in
        record { ranks = (tie, None); is = subst (λ l. IsOrder (tie, None) h s l) (sym e.1) a.order_is; deeper = omega arith; short = omega (arith, cut_short) }
    | inr e ↦
        let ranks : Ranking = (tie, Some (take a.cut zs, e.1.0)) in
        let far : a.cut < seen = e.2.0 in
        let one : 1 ≤ a.cut = a.cut_is.0 in
        let inside : In (take seen a.course) t = in_longer a.course a.cut seen t (omega arith) (ap (λ l. is_one_of l t) (begins_alike e.1.0 e.1.2) ∙ a.fewest.0.0) in
        let r : Reaching ranks h s t a.course seen = elim e.2.2 as (λ _. Reaching ranks h s t a.course seen) [ inl done ↦ reaching_done ranks h s has a.course e.1.2 t seen (omega arith) e.2.1 done | inr end ↦ reaching_end ranks h s has a.course e.1.2 t seen end ] in
        record { ranks = ranks; is = e.1.2; deeper = deeper_at ranks h s has a.course e.1.2 t seen r inside depth a.depth_is; short = e.2.1 }
  ]

  pub tied_is : (name : List ℕ) → name_at names t ≡ Some name → IsNamedBy h s names cap t name depth seen
  tied_is name named =
      let w = in_order in
      let walked = order_walked w.ranks h s a.course has w.is in
      let lists : Lists a.course (IsAncestor h s) = order_lists h s a.course walked in
      let reached : IsAncestor h s t = ((order_lists h s zs (order_walked (tie, None) h s zs has a.order_is)).1 t).0 (in_take zs a.cut t a.fewest.0.0) in
      let all : HasSize (IsAncestor h s) (length a.course) = (a.course, lists, refl) in
      let below_t = ancestors_size h t in
      let out : HasSize (IsAheadOf h s t) (length a.course - below_t.0) = ahead_size h s t (length a.course) below_t.0 reached all below_t.1 in
      record {
        t_reached = reached;
        t_named = named;
        all = length a.course;
        all_is = all;
        ahead = length a.course - below_t.0;
        ahead_is = out;
        low = late_low h s a.course walked t reached depth a.depth_is (length a.course - below_t.0) out;
        high = λ f fall. late_high h s a.course walked t reached depth a.depth_is (length a.course) f all fall;
        deeper = w.deeper;
        seen_most = w.short;
        exact = λ older fit. by name named older fit a.seen_is;
      }
    where
      by : (name : List ℕ) → name_at names t ≡ Some name → ParentsAreOlder h s → AtMost cap (IsNamedAncestor h s names)
          → (EndsAt tie h names zs a.cut × (a.course ≡ zs) × (seen ≡ a.cut)) ⊎ ((¬ EndsAt tie h names zs a.cut) × GoesPast tie h s zs a.cut a.course × IsPast h a.course t a.cut seen) → IsLeastAhead h s names depth
      by name named older fit (inl e) =
          least_at (tie, None) h s has zs a.order_is t a.cut (at_cut e.0) a.fewest.0.0 names cap depth name named (subst (λ l. IsLate h l t (length l) depth) e.1 a.depth_is) a.fewest older fit
      by name named older fit (inr e) = absurd (elim a.cut_is.1 as (λ _. ⊥) [
        | inl st ↦ e.0 (inl st)
        | inr (inl full) ↦ full_many (tie, None) h s has zs a.order_is names cap a.cut full fit
        | inr (inr end) ↦ e.0 (inr end)
      ])

pub tied_described : (tie : Tie) (h : History) (s : ObjectId) (names : Names) (cap : ℕ) (t : ObjectId) (depth seen : ℕ) (name : List ℕ) → Has h s → name_at names t ≡ Some name → IsTied tie h s names cap t depth seen → IsNamedBy h s names cap t name depth seen
tied_described tie h s names cap t depth seen name has named a = tied_is tie h s names cap t depth seen has a name named
