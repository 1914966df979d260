-- The place at which a walk ends is the cut of the fixed order.
use Rattle.std.proofs.Common.{◌≡◌, ℕ, Bool, true, false, refl, ap, sym, subst, ◌∙◌, List, [], ◌∷◌, ◌++◌, ◌⊎◌, inl, inr, not, IsTrue, get_or, length, take, ◌≤◌, ◌+◌, ◌-◌, arith, append_assoc, length-append, is_some}
use Rattle.std.specs.List.{list_any}
use Rattle.std.proofs.lemmas.List.{length_push, take_all, take-append-le, get_or_push, get_or_append_left, get_or_default}
use Rattle.gix_base.specs.declared.hash.ObjectId.{ObjectId}
use Rattle.gix_revwalk.specs.History.{History, same_id, is_one_of, Has, IsEdge}
use Rattle.gix_revwalk.proofs.Ids.{same_id-true, same_id-itself}
use Rattle.gix_revwalk.proofs.Members.{one_of-left, one_of-right, one_of-cases, one_of-single, one_of-head, one_of-filter, one_of-filtered}
use Rattle.gix_describe.specs.declared.describe.options.Tie.{Tie}
use Rattle.gix_describe.specs.declared.describe.options.Tie.TheVariants.{ById, ByMeeting}
use Rattle.gix_describe.specs.Ahead.{IsPath}
use Rattle.gix_describe.specs.Ahead.IsPath.{stay, further as goes_on}
use Rattle.gix_describe.specs.Described.{Names}
use Rattle.gix_describe.specs.Order.{Ranking, Reaches, IsLate, IsOpen, Marks, Stands, IsCandidate, MaySettle, IsSettled, IsCompleted}
use Rattle.gix_describe.specs.Trace.{is_edge, is_open, has_mark, late_of, is_named, IsNext, IsWalk}
use Rattle.gix_describe.specs.Trace.IsWalk.{begins, goes}
use Rattle.gix_describe.specs.WalkState.{others, NamedUpTo, MaySettleAt, IsSettledAt, IsCompletedAt}
use Rattle.gix_describe.proofs.Early.{In, absent}
use Rattle.gix_describe.proofs.Counts.{size_one}
use Rattle.gix_describe.proofs.Exact.{Within}
use Rattle.gix_describe.proofs.Traces.{Open, and_left, and_right, both, or_split, or_right, mark_fresh, open_met, open_out, open_is}
use Rattle.gix_describe.proofs.WalkQueue.{started, only_start}
use Rattle.gix_describe.proofs.WalkSteps.{named_of, split_push, no_split}
use Rattle.gix_describe.proofs.OrderWalks.{any_edge, edge_any, exact_of, late_there}

-- each first part of a walk is one, and its last commit came first
pub record LastOf (ranks : Ranking) (h : History) (s : ObjectId) (ys : List ObjectId) (x : ObjectId) : Type 0 where
  pub walk : IsWalk ranks h s ys
  pub next : IsNext ranks h s ys x

pub walk_part : (ranks : Ranking) (h : History) (s : ObjectId) (xs ys rest : List ObjectId) (x : ObjectId) → IsWalk ranks h s xs → xs ≡ ys ++ (x ∷ rest) → LastOf ranks h s ys x
walk_part ranks h s xs ys rest x begins e = absurd (no_split ys rest x e)
walk_part ranks h s xs ys rest x (goes us xs' a is w nx) e = elim (split_push us a ys rest x (sym is ∙ e)) as (λ _. LastOf ranks h s ys x) [
  | inl k ↦ record { walk = subst (λ l. IsWalk ranks h s l) (sym k.0) w; next = subst (λ l. IsNext ranks h s l x) (sym k.0) (subst (λ z. IsNext ranks h s us z) (sym k.1) nx) }
  | inr k ↦ walk_part ranks h s us ys k.0 x w k.1
]

module _ (ranks : Ranking) (h : History) (s : ObjectId) (names : Names) (zs ys more : List ObjectId) (x : ObjectId) (has : Has h s) (last : LastOf ranks h s ys x) (is : zs ≡ ys ++ (x ∷ more)) where
  abbrev upto : List ObjectId
  upto = ys ++ x ∷ []

  split : zs ≡ upto ++ more
  split = is ∙ sym (append_assoc ys (x ∷ []) more)

  walk : IsWalk ranks h s upto
  walk = goes ys upto x refl last.walk last.next

  len : length upto ≡ length ys + 1
  len = length_push ys x

  first : take (length ys + 1) zs ≡ ys ++ x ∷ []
  first = ap (take (length ys + 1)) split ∙ take-append-le (length ys + 1) upto more (omega (arith, len)) ∙ take_all (length ys + 1) upto (omega (arith, len))

  before : take ((length ys + 1) - 1) zs ≡ ys
  before = ap (λ n. take n zs) (minus (length ys)) ∙ ap (take (length ys)) is ∙ take-append-le (length ys) ys (x ∷ more) (omega arith) ∙ take_all (length ys) ys (omega arith)
    where
      minus : (n : ℕ) → (n + 1) - 1 ≡ n
      minus n = omega arith

  x_out : ¬ In ys x
  x_out = open_out h s ys x last.next.0

  pub stands : Stands zs (length ys + 1) x
  stands = (omega arith, (let a : length zs ≡ length upto + length more = ap length split ∙ length-append upto more in omega (arith, len, a)), at)
    where
      at : get_or zs ((length ys + 1) - 1) x ≡ x
      at = ap (λ n. get_or zs n x) (minus (length ys)) ∙ ap (λ l. get_or l (length ys) x) split ∙ get_or_append_left upto more x (length ys) (omega (arith, len)) ∙ get_or_push ys x x (length ys) refl
        where
          minus : (n : ℕ) → (n + 1) - 1 ≡ n
          minus n = omega arith

  named_from : (t : ObjectId) → NamedUpTo names ys x t → IsCandidate names zs (length ys + 1) t
  named_from t n = let r = one_of-filter (is_named names) upto t n in (ap (λ l. is_one_of l t) first ∙ r.0, named_of names t r.1)

  named_to : (t : ObjectId) → IsCandidate names zs (length ys + 1) t → NamedUpTo names ys x t
  named_to t c = one_of-filtered (is_named names) upto t (ap (λ l. is_one_of l t) (sym first) ∙ c.0) (ap is_some c.1.1)

  late_at : (t : ObjectId) → In upto t → IsLate h zs t (length ys + 1) (length (late_of h t upto))
  late_at t m = subst (λ n. IsLate h zs t n (length (late_of h t upto))) len (late_there ranks h s t zs upto more has walk m split)

  in_upto : (t : ObjectId) → IsCandidate names zs (length ys + 1) t → In upto t
  in_upto t c = ap (λ l. is_one_of l t) (sym first) ∙ c.0

  one_size : (t : ObjectId) (n : ℕ) → In upto t → IsLate h zs t (length ys + 1) n → n ≡ length (late_of h t upto)
  one_size t n m late = size_one (λ c. IsTrue (is_one_of (take (length ys + 1) zs) c) × (¬ Reaches h zs t c)) n (length (late_of h t upto)) late (late_at t m)

  -- ---- marks
  same_path : (t c : ObjectId) → Marks h zs (length ys + 1) t c → IsPath (Within h zs ys) t c
  same_path t c stay = stay
  same_path t c (goes_on b c' p e) = goes_on b c (same_path t b p) (e.0, ap (λ l. is_one_of l b) (sym before) ∙ e.1)

  path_same : (t c : ObjectId) → IsPath (Within h zs ys) t c → Marks h zs (length ys + 1) t c
  path_same t c stay = stay
  path_same t c (goes_on b c' p e) = goes_on b c (path_same t b p) (e.0, ap (λ l. is_one_of l b) before ∙ e.1)

  mark_from : (t : ObjectId) → In upto t → Marks h zs (length ys + 1) t x → has_mark h t ys x ≡ true
  mark_from t m p = elim (one_of-cases ys (x ∷ []) t m) as (λ _. has_mark h t ys x ≡ true) [
    | inl k ↦ (exact_of ranks h s t zs ys (x ∷ more) has last.walk k is).marks x x_out (same_path t x p)
    | inr k ↦ subst (λ z. has_mark h z ys x ≡ true) (sym (one_of-single x t k)) (mark_fresh h x ys (absent ys x x_out) x ∙ same_id-itself x)
  ]

  mark_to : (t : ObjectId) → In upto t → has_mark h t ys x ≡ true → Marks h zs (length ys + 1) t x
  mark_to t m e = elim (one_of-cases ys (x ∷ []) t m) as (λ _. Marks h zs (length ys + 1) t x) [
    | inl k ↦ path_same t x ((exact_of ranks h s t zs ys (x ∷ more) has last.walk k is).marked x x_out e)
    | inr k ↦ subst (λ z. Marks h zs (length ys + 1) z x) (sym (one_of-single x t k)) stay
  ]

  -- ---- what is open
  open_from : (c : ObjectId) → others h s ys x c ≡ true → IsOpen h zs (length ys + 1) c
  open_from c o =
      let op : Open h s ys c = and_left (is_open h s ys c) (not (same_id x c)) o in
      let out : ¬ In upto c = λ m. elim (one_of-cases ys (x ∷ []) c m) as (λ _. ⊥) [
        | inl l ↦ open_out h s ys c op l
        | inr r ↦ not_same (one_of-single x c r) (and_right (is_open h s ys c) (not (same_id x c)) o)
      ] in
      let e = edge c op out in
      ((λ m. out (ap (λ l. is_one_of l c) (sym first) ∙ m)), e.0, ap (λ l. is_one_of l e.0) before ∙ e.1, e.2)
    where
      not_same : c ≡ x → not (same_id x c) ≡ true → ⊥
      not_same same n = let f : not true ≡ true = ap not (sym (ap (same_id x) same ∙ same_id-itself x)) ∙ n in cc

      edge : (c : ObjectId) → Open h s ys c → (¬ In upto c) → (p : ObjectId) × In ys p × IsEdge h p c
      edge c op out = elim (or_split (same_id s c) (list_any (λ p. is_edge h p c) ys) (open_met h s ys c op)) as (λ _. (p : ObjectId) × In ys p × IsEdge h p c) [
        | inl same ↦ absurd (elim (started ranks h s ys last.walk) as (λ _. ⊥) [
          | inl none ↦ out (one_of-right ys (x ∷ []) c (subst (λ z. In (x ∷ []) z) (only_start h s x (subst (λ l. Open h s l x) none last.next.0) ∙ same_id-true s c same) (one_of-head x [])))
          | inr m ↦ out (one_of-left ys (x ∷ []) c (subst (λ z. In ys z) (same_id-true s c same) m))
        ])
        | inr r ↦ any_edge h ys c r
      ]

  open_to : (c : ObjectId) → IsOpen h zs (length ys + 1) c → others h s ys x c ≡ true
  open_to c o =
      let out : ¬ In upto c = λ m. o.0 (ap (λ l. is_one_of l c) first ∙ m) in
      both _ _ (open_is h s ys c (or_right (same_id s c) _ (edge_any h ys o.1 c (ap (λ l. is_one_of l o.1) (sym before) ∙ o.2) o.3)) (λ m. out (one_of-left ys (x ∷ []) c m))) (other (same_id x c) refl out)
    where
      other : (b : Bool) → same_id x c ≡ b → (¬ In upto c) → not (same_id x c) ≡ true
      other true e out = absurd (out (one_of-right ys (x ∷ []) c (subst (λ z. In (x ∷ []) z) (same_id-true x c e) (one_of-head x []))))
      other false e out = ap not e

  -- ---- where the count of one is complete
  starts : (t c : ObjectId) → IsPath (Within h zs ys) t c → (t ≡ c) ⊎ In ys t
  starts t c stay = inl refl
  starts t c (goes_on b c' p e) = elim (starts t b p) as (λ _. (t ≡ c) ⊎ In ys t) [ inl is ↦ inr (subst (λ z. In ys z) (sym is) e.1) | inr k ↦ inr k ]

  other_than : (c : ObjectId) → others h s ys x c ≡ true → c ≡ x → ⊥
  other_than c o same = let f : not true ≡ true = ap not (sym (ap (same_id x) same ∙ same_id-itself x)) ∙ and_right (is_open h s ys c) (not (same_id x c)) o in cc

  pub completed_from : (t : ObjectId) → IsCompleted h zs t (length ys + 1) → IsCompletedAt h s t ys x
  completed_from t cd =
      let m : In upto t = elim (starts t x (same_path t x (cd.0 x stands))) as (λ _. In upto t) [
        | inl e ↦ one_of-right ys (x ∷ []) t (subst (λ z. In (x ∷ []) z) (sym e) (one_of-head x []))
        | inr k ↦ one_of-left ys (x ∷ []) t k
      ] in
      record {
        own = mark_from t m (cd.0 x stands);
        left = λ c o.
            let p : IsPath (Within h zs ys) t c = same_path t c (cd.1 c (open_from c o)) in
            elim (one_of-cases ys (x ∷ []) t m) as (λ _. has_mark h t ys c ≡ true) [
              | inl k ↦ (exact_of ranks h s t zs ys (x ∷ more) has last.walk k is).marks c (open_out h s ys c (and_left (is_open h s ys c) (not (same_id x c)) o)) p
              | inr k ↦ absurd (elim (starts t c p) as (λ _. ⊥) [ inl e ↦ other_than c o (sym e ∙ one_of-single x t k) | inr l ↦ x_out (subst (λ z. In ys z) (one_of-single x t k) l) ])
            ];
      }

  pub completed_to : (t : ObjectId) → In upto t → IsCompletedAt h s t ys x → IsCompleted h zs t (length ys + 1)
  completed_to t m d = (
    λ c st.
        let here : c ≡ x = sym (st.2) ∙ get_or_default zs ((length ys + 1) - 1) c x (omega (arith, stands.1)) ∙ stands.2 in
        subst (λ z. Marks h zs (length ys + 1) t z) (sym here) (mark_to t m d.own),
    λ c o. elim (one_of-cases ys (x ∷ []) t m) as (λ _. Marks h zs (length ys + 1) t c) [
      | inl k ↦ path_same t c ((exact_of ranks h s t zs ys (x ∷ more) has last.walk k is).marked c (λ n. o.0 (ap (λ l. is_one_of l c) first ∙ one_of-left ys (x ∷ []) c n)) (d.left c (open_to c o)))
      | inr k ↦
          let same : t ≡ x = one_of-single x t k in
          let own : same_id t c ≡ true = sym (mark_fresh h t ys (ap (is_one_of ys) same ∙ absent ys x x_out) c) ∙ d.left c (open_to c o) in
          absurd (other_than c (open_to c o) (sym (same_id-true t c own) ∙ same))
    ],
  )

  -- ---- where the walk settles
  may_from : (e : Tie) → MaySettle e h zs (length ys + 1) → MaySettleAt e h s ys x
  may_from ById none = λ c o. none c (open_from c o)
  may_from ByMeeting none = tt

  may_to : (e : Tie) → MaySettleAt e h s ys x → MaySettle e h zs (length ys + 1)
  may_to ById none = λ c o. none c (open_to c o)
  may_to ByMeeting none = tt

  pub settled_from : IsSettled ranks.0 h names zs (length ys + 1) → IsSettledAt ranks.0 h s names ys x
  settled_from st = record {
    may = may_from ranks.0 st.1;
    some = (st.0.0, named_to st.0.0 st.0.1);
    completed = λ t n few. completed_from t (st.2 t (
      named_from t n,
      λ u i j cand a b.
          let d : i ≡ length (late_of h t upto) = one_size t i (one_of-filter (is_named names) upto t n).0 a in
          let e : j ≡ length (late_of h u upto) = one_size u j (in_upto u cand) b in
          let le : length (late_of h t upto) ≤ length (late_of h u upto) = few u (named_to u cand) in
          omega arith,
    ));
  }

  pub settled_to : IsSettledAt ranks.0 h s names ys x → IsSettled ranks.0 h names zs (length ys + 1)
  settled_to st = (
    (st.some.0, named_from st.some.0 st.some.1),
    may_to ranks.0 st.may,
    λ t few. completed_to t (in_upto t few.0) (st.completed t (named_to t few.0) (λ u n.
        few.1 u (length (late_of h t upto)) (length (late_of h u upto)) (named_from u n) (late_at t (in_upto t few.0)) (late_at u (one_of-filter (is_named names) upto u n).0))),
  )
