-- The candidate that is chosen is the one that the fixed order names.
use Rattle.gix_revwalk.proofs.Members.{one_of-right, one_of-head}
use Rattle.std.proofs.Common.{◌≡◌, ℕ, Bool, true, false, refl, ap, sym, subst, ◌∙◌, List, [], ◌∷◌, ◌++◌, ◌⊎◌, inl, inr, IsTrue, get_or, length, slice_index, take, Option, Some, None, ◌≤◌, ◌<◌, ◌+◌, arith, append_assoc, ◌-◌}
use Rattle.std.specs.Bool.{MatchBool}
use Rattle.std.specs.List.{filter}
use Rattle.std.specs.Option.{unwrap_or}
use Rattle.std.specs.Ordering.{nat_cmp, ordering_then, is_lt, is_gt}
use Rattle.std.specs.Cmp.Lexicographic.{slice_cmp}
use Rattle.std.specs.FinMap.{nat_cmp-IsAntisymmetric, slice_cmp-IsAntisymmetric}
use Rattle.std.specs.declared.cmp.Ordering.{Ordering}
use Rattle.std.specs.declared.cmp.Ordering.TheVariants.{Less, Equal, Greater}
use Rattle.std.proofs.lemmas.Cmp.{nat_cmp_total, tied_itself}
use Rattle.std.proofs.lemmas.List.{take_all, take-append-le, length_push}
use Rattle.gix_base.specs.declared.hash.ObjectId.{ObjectId}
use Rattle.gix_revwalk.specs.Graph.{Graphed, held_at}
use Rattle.gix_revwalk.specs.History.{History, is_one_of, Has}
use Rattle.gix_describe.specs.declared.describe.options.Tie.{Tie}
use Rattle.gix_describe.specs.declared.describe.options.Tie.TheVariants.{ById, ByMeeting}
use Rattle.gix_describe.specs.Described.{Names, IsNamed}
use Rattle.gix_describe.specs.Order.{Ranking, PutBack, IsOrder, GoesPast, place, Reaches, IsLate, IsCandidate, IsFewest, IsPreferred, EndsAt, IsCut, IsTied, IsPast, IsLedTo, HoldsFirst}
use Rattle.gix_describe.specs.Counted.{CountsNamed}
use Rattle.gix_describe.specs.Choice.{rank_order, rank_at, name_of, IsChosen}
use Rattle.gix_describe.specs.Trace.{late_of, is_named, IsNext, IsWalk}
use Rattle.gix_describe.specs.WalkState.{IsCounted, IsHeld, IsEnded, IsFull, IsComplete, IsUnsettled, IsUnsettledBefore, SettlesLast}
use Rattle.gix_describe.proofs.CutEnds.{cut_ended, cut_full, past_full, stands_next, settled_last, end_last, past_is}
use Rattle.gix_describe.specs.declared.describe.walk.Walk.{Walk}
use Rattle.gix_describe.proofs.Early.{In}
use Rattle.gix_describe.proofs.Counts.{size_one}
use Rattle.gix_describe.proofs.Orders.{place_left}
use Rattle.gix_describe.proofs.Places.{filtered_rise}
use Rattle.gix_describe.proofs.Traces.{Open, Marked, popped_of}
use Rattle.gix_describe.proofs.WalkQueue.{started}
use Rattle.gix_describe.proofs.WalkEnds.{candidate_in, candidate_at, chosen_lowest}
use Rattle.gix_describe.proofs.OrderWalks.{IsPrefix, walk_prefix, late_there, late_final, met_led, led_met}

-- of equal counts the smaller name comes first, then the smaller id
by_rank : (i j : ℕ) (m n a b : List ℕ) → i ≡ j → is_gt (rank_order (i, m, a) (j, n, b)) ≡ false → IsTrue (is_lt (slice_cmp nat_cmp m n)) ⊎ ((m ≡ n) × (IsTrue (is_lt (slice_cmp nat_cmp a b)) ⊎ (a ≡ b)))
by_rank i j m n a b same g = names (slice_cmp nat_cmp m n) refl (ap (λ o. is_gt (ordering_then (ordering_then o (slice_cmp nat_cmp m n)) (slice_cmp nat_cmp a b))) (sym (ap (λ k. nat_cmp k j) same ∙ tied_itself nat_cmp_total j)) ∙ g)
  where
    ids : (o : Ordering) → slice_cmp nat_cmp a b ≡ o → is_gt o ≡ false → IsTrue (is_lt (slice_cmp nat_cmp a b)) ⊎ (a ≡ b)
    ids Less e f = inl (ap is_lt e)
    ids Equal e f = inr (slice_cmp-IsAntisymmetric nat_cmp-IsAntisymmetric a b e)
    ids Greater e f = absurd (let k : true ≡ false = f in cc)

    names : (o : Ordering) → slice_cmp nat_cmp m n ≡ o → is_gt (ordering_then o (slice_cmp nat_cmp a b)) ≡ false → IsTrue (is_lt (slice_cmp nat_cmp m n)) ⊎ ((m ≡ n) × (IsTrue (is_lt (slice_cmp nat_cmp a b)) ⊎ (a ≡ b)))
    names Less e f = inl (ap is_lt e)
    names Equal e f = inr (slice_cmp-IsAntisymmetric nat_cmp-IsAntisymmetric m n e, ids (slice_cmp nat_cmp a b) refl f)
    names Greater e f = absurd (let k : true ≡ false = f in cc)

-- of equal counts the smaller place comes first
by_place : (m n i k : ℕ) → m ≡ n → is_gt (rank_order (m, i ∷ [], []) (n, k ∷ [], [])) ≡ false → i ≤ k
by_place m n i k same g = places (nat_cmp i k) refl (ap (λ o. is_gt (ordering_then (ordering_then o (slice_cmp nat_cmp (i ∷ []) (k ∷ []))) Equal)) (sym (ap (λ z. nat_cmp z n) same ∙ tied_itself nat_cmp_total n)) ∙ g)
  where
    places : (o : Ordering) → nat_cmp i k ≡ o → is_gt (ordering_then (ordering_then o Equal) Equal) ≡ false → i ≤ k
    places Less e f = less i k e
      where
        less : (i k : ℕ) → nat_cmp i k ≡ Less → i ≤ k
        less i k e = grind arith
    places Equal e f = let is : i ≡ k = nat_cmp-IsAntisymmetric i k e in omega arith
    places Greater e f = absurd (let k : true ≡ false = f in cc)

pub some_in : (ranks : Ranking) (h : History) (s t : ObjectId) (xs : List ObjectId) → IsWalk ranks h s xs → In xs t → In xs s
some_in ranks h s t xs w m = elim (started ranks h s xs w) as (λ _. In xs s) [
  | inl none ↦ absurd (let f : false ≡ true = ap (λ l. is_one_of l t) (sym none) ∙ m in cc)
  | inr k ↦ k
]

module _ (tie : Tie) (h : History) (s : ObjectId) (names : Names) (popped cs : List ObjectId) (ns : List ℕ) (has : Has h s) (w : IsWalk (tie, None) h s popped) (are : cs ≡ filter (is_named names) popped) (counted : IsCounted h s popped cs ns)
    (j : ℕ) (is : IsChosen tie names cs ns j) where
  abbrev pub t : ObjectId
  t = get_or cs j s

  t_in : In popped t × IsNamed names t
  t_in = candidate_in h s names popped cs are j is.0

  pub prefix : IsPrefix (tie, None) h s popped
  prefix = walk_prefix (tie, None) h s popped has w (some_in (tie, None) h s t popped w t_in.0)

  first : take (length popped) prefix.order ≡ popped
  first = ap (take (length popped)) prefix.splits ∙ take-append-le (length popped) popped prefix.rest (omega arith) ∙ take_all (length popped) popped (omega arith)

  late_is : (u : ObjectId) (n : ℕ) → In popped u → IsLate h prefix.order u (length popped) n → n ≡ length (late_of h u popped)
  late_is u n m late = size_one (λ c. IsTrue (is_one_of (take (length popped) prefix.order) c) × (¬ Reaches h prefix.order u c)) n (length (late_of h u popped)) late (late_there (tie, None) h s u prefix.order popped prefix.rest has w m prefix.splits)

  count_at : (k : ℕ) → k < length cs → slice_index ns k ≡ length (late_of h (get_or cs k s) popped)
  count_at k below = counted.late k below

  lowest : (k : ℕ) → k < length cs → slice_index ns j ≤ slice_index ns k
  lowest k below = chosen_lowest tie names cs ns s j counted.each is k (let e : length ns ≡ length cs = counted.each in omega arith)

  place_of : (u : ObjectId) → IsCandidate names prefix.order (length popped) u → (k : ℕ) × (k < length cs) × (get_or cs k s ≡ u)
  place_of u c = candidate_at h s names popped cs are u (ap (λ l. is_one_of l u) (sym first) ∙ c.0) c.1

  own : IsCandidate names prefix.order (length popped) t
  own = (ap (λ l. is_one_of l t) first ∙ t_in.0, t_in.1)

  places_rise : (i k : ℕ) → i ≤ k → k < length cs → place prefix.order (get_or cs i s) ≤ place prefix.order (get_or cs k s)
  places_rise i k le below =
      rw (prefix.splits, place_left popped prefix.rest (get_or cs i s) (candidate_in h s names popped cs are i (omega (arith, le, below))).0, place_left popped prefix.rest (get_or cs k s) (candidate_in h s names popped cs are k below).0, are)
      (filtered_rise (is_named names) popped (popped_of (tie, None) h s popped has w).once s i k le (subst (λ l. k < length l) are below))

  pub fewest_is : IsFewest h names prefix.order (length popped) t
  fewest_is = (
    own,
    λ u m n cand late_t late_u.
        let k = place_of u cand in
        let a : m ≡ length (late_of h t popped) = late_is t m t_in.0 late_t in
        let b : n ≡ length (late_of h u popped) = late_is u n (ap (λ l. is_one_of l u) (sym first) ∙ cand.0) late_u in
        let c : slice_index ns j ≡ length (late_of h t popped) = count_at j is.0 in
        let d : slice_index ns k.0 ≡ length (late_of h (get_or cs k.0 s) popped) = count_at k.0 k.1 in
        let e : length (late_of h (get_or cs k.0 s) popped) ≡ length (late_of h u popped) = ap (λ z. length (late_of h z popped)) k.2 in
        let le : slice_index ns j ≤ slice_index ns k.0 = lowest k.0 k.1 in
        omega arith,
  )

  -- of the nearest candidates it comes first
  same_count : (u : ObjectId) → (few : IsFewest h names prefix.order (length popped) u) → slice_index ns j ≡ slice_index ns (place_of u few.0).0
  same_count u few =
      let k = place_of u few.0 in
      let u_in : In popped u = ap (λ l. is_one_of l u) (sym first) ∙ few.0.0 in
      let late_u = late_there (tie, None) h s u prefix.order popped prefix.rest has w u_in prefix.splits in
      let late_t = late_there (tie, None) h s t prefix.order popped prefix.rest has w t_in.0 prefix.splits in
      let up : length (late_of h u popped) ≤ length (late_of h t popped) = few.1 t _ _ own late_u late_t in
      let c : slice_index ns j ≡ length (late_of h t popped) = count_at j is.0 in
      let d : slice_index ns k.0 ≡ length (late_of h (get_or cs k.0 s) popped) = count_at k.0 k.1 in
      let e : length (late_of h (get_or cs k.0 s) popped) ≡ length (late_of h u popped) = ap (λ z. length (late_of h z popped)) k.2 in
      let le : slice_index ns j ≤ slice_index ns k.0 = lowest k.0 k.1 in
      omega arith

  pub preferred_is : (u : ObjectId) → IsFewest h names prefix.order (length popped) u → IsPreferred tie names prefix.order t u
  preferred_is u few = by tie is.1
    where
      k : (k : ℕ) × (k < length cs) × (get_or cs k s ≡ u)
      k = place_of u few.0

      by : (tie : Tie) → ((d : ObjectId) (k : ℕ) → k < length cs → is_gt (rank_order (rank_at tie names cs ns d j) (rank_at tie names cs ns d k)) ≡ false) → IsPreferred tie names prefix.order t u
      by ByMeeting first_one =
          let le : j ≤ k.0 = by_place (slice_index ns j) (slice_index ns k.0) j k.0 (same_count u few) (first_one s k.0 k.1) in
          subst (λ v. place prefix.order t ≤ place prefix.order v) k.2 (places_rise j k.0 le k.1)
      by ById first_one = λ m n name_t name_u.
          let r = by_rank (slice_index ns j) (slice_index ns k.0) (name_of names t) (name_of names (get_or cs k.0 s)) t.0 (get_or cs k.0 s).0 (same_count u few) (first_one s k.0 k.1) in
          let nt : name_of names t ≡ m = ap (λ o. unwrap_or o []) name_t in
          let nu : name_of names (get_or cs k.0 s) ≡ n = ap (name_of names) k.2 ∙ ap (λ o. unwrap_or o []) name_u in
          ends m n (get_or cs k.0 s) nt nu k.2 r
        where
          ends : (m n : List ℕ) (v : ObjectId) → name_of names t ≡ m → name_of names v ≡ n → v ≡ u
              → IsTrue (is_lt (slice_cmp nat_cmp (name_of names t) (name_of names v))) ⊎ ((name_of names t ≡ name_of names v) × (IsTrue (is_lt (slice_cmp nat_cmp t.0 v.0)) ⊎ (t.0 ≡ v.0)))
              → IsTrue (is_lt (slice_cmp nat_cmp m n)) ⊎ ((m ≡ n) × (IsTrue (is_lt (slice_cmp nat_cmp t.0 u.0)) ⊎ (t ≡ u)))
          ends m n v nt nv same (inl l) = inl (subst (λ z. IsTrue (is_lt (slice_cmp nat_cmp m z))) nv (subst (λ z. IsTrue (is_lt (slice_cmp nat_cmp z (name_of names v)))) nt l))
          ends m n v nt nv same (inr r) = inr (
            sym nt ∙ r.0 ∙ nv,
            elim r.1 as (λ _. IsTrue (is_lt (slice_cmp nat_cmp t.0 u.0)) ⊎ (t ≡ u)) [
              | inl l ↦ inl (subst (λ z. IsTrue (is_lt (slice_cmp nat_cmp t.0 z.0))) same l)
              | inr e ↦ inr (ap (λ (l : List ℕ). record { 0 = l }) e ∙ same)
            ],
          )

  -- with the walk past the cut
  pub tied_by : (cap depth seen : ℕ) (course : List ObjectId) → IsCut tie h names prefix.order cap (length popped)
      → (EndsAt tie h names prefix.order (length popped) × (course ≡ prefix.order) × (seen ≡ length popped)) ⊎ ((¬ EndsAt tie h names prefix.order (length popped)) × GoesPast tie h s prefix.order (length popped) course × IsPast h course t (length popped) seen)
      → IsLate h course t (length course) depth → IsTied tie h s names cap t depth seen
  tied_by cap depth seen course cut seen_is late = record {
    order = prefix.order;
    order_is = prefix.order_is;
    cut = length popped;
    cut_is = cut;
    fewest = fewest_is;
    preferred = preferred_is;
    course = course;
    depth_is = late;
    seen_is = seen_is;
  }

  some : 0 < length popped
  some = filled popped t_in.0
    where
      filled : (xs : List ObjectId) → In xs t → 0 < length xs
      filled [] m = absurd (let f : false ≡ true = m in cc)
      filled (x ∷ xs) m = omega arith

  ends_of : (cap : ℕ) → length cs ≤ cap → SettlesLast tie h s names popped ⊎ ((c : ObjectId) → ¬ Open h s popped c) → EndsAt tie h names prefix.order (length popped)
  ends_of cap few stop = elim stop as (λ _. EndsAt tie h names prefix.order (length popped)) [
    | inl l ↦ inl (settled_last tie h s names cap popped cs prefix.order prefix.rest has w are few prefix.splits prefix.goes_on some l)
    | inr none ↦ inr (end_last tie h s names cap popped cs prefix.order prefix.rest has w are few prefix.splits prefix.goes_on some none)
  ]

  -- how many leave the queue, where the walk ends at the cut
  pub counts_ended : (cap seen pops : ℕ) → length cs ≤ cap → IsUnsettledBefore tie h s names popped → SettlesLast tie h s names popped ⊎ ((c : ObjectId) → ¬ Open h s popped c) → pops ≡ seen → CountsNamed tie h s names cap seen pops
  counts_ended cap seen pops few going stop is = record {
    order = prefix.order;
    order_is = prefix.order_is;
    cut = length popped;
    cut_is = cut_ended tie h s names cap popped cs prefix.order prefix.rest has w are few prefix.splits prefix.goes_on some going stop;
    pops_is = inl (ends_of cap few stop, is);
  }

  -- and where the next one was given up
  pub counts_full : (cap seen pops : ℕ) → length cs ≡ cap → IsUnsettled tie h s names popped → (x : ObjectId) → IsNext (tie, None) h s popped x → IsNamed names x → pops ≡ seen + 1 → CountsNamed tie h s names cap seen pops
  counts_full cap seen pops full going x nx x_named is =
      let first_in = some_in (tie, None) h s t popped w t_in.0 in
      let few : length cs ≤ cap = omega arith in
      record {
        order = prefix.order;
        order_is = prefix.order_is;
        cut = length popped;
        cut_is = cut_full tie h s names cap popped cs prefix.order prefix.rest has w are few prefix.splits prefix.goes_on some x nx x_named full first_in going;
        pops_is = inr ((λ ends. past_full tie h s names cap popped cs prefix.order prefix.rest has w are few prefix.splits prefix.goes_on some x nx x_named full first_in going ends), is);
      }

  -- where all that is left has the mark at the cut
  pub tied_ended : (cap seen : ℕ) → length cs ≤ cap → IsUnsettledBefore tie h s names popped → SettlesLast tie h s names popped ⊎ ((c : ObjectId) → ¬ Open h s popped c) → seen ≡ length popped
      → ((c : ObjectId) → Open h s popped c → Marked h t popped c) → IsTied tie h s names cap t (slice_index ns j) seen
  tied_ended cap seen few going stop seen_is left =
      tied_by cap (slice_index ns j) seen prefix.order (cut_ended tie h s names cap popped cs prefix.order prefix.rest has w are few prefix.splits prefix.goes_on some going stop) (inl (ends_of cap few stop, refl, seen_is))
      (subst (λ n. IsLate h prefix.order t (length prefix.order) n) (sym (count_at j is.0))
      (late_final (tie, None) h s t prefix.order popped prefix.rest has w t_in.0 (some_in (tie, None) h s t popped w t_in.0) prefix.splits prefix.goes_on left))

  -- where the count was completed past the cut
  pub tied_complete : {held : ObjectId → Option ℕ} (cap count seen : ℕ) → length cs ≡ cap → IsUnsettled tie h s names popped → (x : ObjectId) → IsNext (tie, None) h s popped x → IsNamed names x → IsComplete tie h s t count seen (popped, x) held → IsTied tie h s names cap t count seen
  tied_complete cap count seen full going x nx x_named e =
      let first_in = some_in (tie, None) h s t popped w t_in.0 in
      let s_in = some_in (tie, Some (popped, x)) h s t e.popped e.walk e.own in
      let p = walk_prefix (tie, Some (popped, x)) h s e.popped e.has e.walk s_in in
      let late : IsLate h p.order t (length p.order) (length (late_of h t e.popped)) = late_final (tie, Some (popped, x)) h s t p.order e.popped p.rest e.has e.walk e.own s_in p.splits p.goes_on e.left in
      let few : length cs ≤ cap = omega arith in
      tied_by cap count seen p.order (cut_full tie h s names cap popped cs prefix.order prefix.rest has w are few prefix.splits prefix.goes_on some x nx x_named full first_in going)
      (inr (
        (λ st. past_full tie h s names cap popped cs prefix.order prefix.rest has w are few prefix.splits prefix.goes_on some x nx x_named full first_in going st),
        (
          x,
          stands_next tie h s names cap popped cs prefix.order prefix.rest has w are few prefix.splits prefix.goes_on some x nx x_named full first_in,
          subst (λ l. IsOrder (tie, Some (l, x)) h s p.order) (sym first) p.order_is,
        ),
        past_is tie h s t count seen (popped, x) p.order p.rest e p.splits p.goes_on,
      ))
      (subst (λ n. IsLate h p.order t (length p.order) n) (sym e.count_is) late)

pub ended_tied : {S A : Type 0} (tie : Tie) (h : History) (s : ObjectId) (names : Names) (cap : ℕ) (w : Walk A) (g : Graphed S ℕ) (full : Bool) → full ≡ false → MatchBool full (IsFull tie h s names cap w g) (IsEnded tie h s names cap w g)
    → (j : ℕ) → IsChosen tie names w.candidates.items w.counts.items j → (id : ObjectId) → id ≡ get_or w.candidates.items j s → (count : ℕ) → count ≡ slice_index w.counts.items j → IsTied tie h s names cap id count w.seen
ended_tied tie h s names cap w g true no' f j is id id_is count count_is = absurd (let k : true ≡ false = no' in cc)
ended_tied tie h s names cap w g false e f j is id id_is count count_is =
    subst (λ z. IsTied tie h s names cap z count w.seen) (sym id_is) (subst (λ n. IsTied tie h s names cap (get_or w.candidates.items j s) n w.seen) (sym count_is)
    (tied_ended tie h s names f.popped w.candidates.items w.counts.items f.has f.walk f.named f.counted j is cap w.seen f.few f.before f.stop f.seen (f.left j is.0 (chosen_lowest tie names w.candidates.items w.counts.items s j f.counted.each is))))

pub full_tied : {S A : Type 0} {held : ObjectId → Option ℕ} (tie : Tie) (h : History) (s : ObjectId) (names : Names) (cap : ℕ) (w : Walk A) (g : Graphed S ℕ) → (f : IsFull tie h s names cap w g)
    → (j : ℕ) → IsChosen tie names w.candidates.items w.counts.items j → (id : ObjectId) → id ≡ get_or w.candidates.items j s → (count seen : ℕ) → IsComplete tie h s (get_or w.candidates.items j s) count seen (f.popped, f.next) held → IsTied tie h s names cap id count seen
full_tied {held = held} tie h s names cap w g f j is id id_is count seen e =
    subst (λ z. IsTied tie h s names cap z count seen) (sym id_is) (tied_complete tie h s names f.popped w.candidates.items w.counts.items f.has f.walk f.named f.counted j is cap count seen f.full f.going f.next f.next_is f.next_named e)

pub ended_counts : {S A : Type 0} (tie : Tie) (h : History) (s : ObjectId) (names : Names) (cap : ℕ) (w : Walk A) (g : Graphed S ℕ) (full : Bool) → full ≡ false → MatchBool full (IsFull tie h s names cap w g) (IsEnded tie h s names cap w g)
    → (j : ℕ) → IsChosen tie names w.candidates.items w.counts.items j → (pops : ℕ) → pops ≡ w.seen → CountsNamed tie h s names cap w.seen pops
ended_counts tie h s names cap w g true no' f j is pops pops_is = absurd (let k : true ≡ false = no' in cc)
ended_counts tie h s names cap w g false e f j is pops pops_is = counts_ended tie h s names f.popped w.candidates.items w.counts.items f.has f.walk f.named f.counted j is cap w.seen pops f.few f.before f.stop pops_is

pub full_counts : {S A : Type 0} (tie : Tie) (h : History) (s : ObjectId) (names : Names) (cap : ℕ) (w : Walk A) (g : Graphed S ℕ) → (f : IsFull tie h s names cap w g)
    → (j : ℕ) → IsChosen tie names w.candidates.items w.counts.items j → (seen pops : ℕ) → pops ≡ seen + 1 → CountsNamed tie h s names cap seen pops
full_counts tie h s names cap w g f j is seen pops pops_is = counts_full tie h s names f.popped w.candidates.items w.counts.items f.has f.walk f.named f.counted j is cap seen pops f.full f.going f.next f.next_is f.next_named pops_is

-- ---- what is held
pub holds_of : (ranks : Ranking) (h : History) (s : ObjectId) (popped : List ObjectId) (held : ObjectId → Option ℕ) (seen : ℕ) → Has h s → IsWalk ranks h s popped → IsHeld h s popped held → seen ≡ length popped → HoldsFirst ranks.0 h s seen held
holds_of ranks h s popped held seen has w k seen_is =
    let pushed : length (k.ys ++ k.x ∷ []) ≡ length k.ys + 1 = length_push k.ys k.x in
    let len : length popped ≡ length (k.ys ++ k.x ∷ []) = ap length k.is in
    let last_in : In popped k.x = ap (λ l. is_one_of l k.x) k.is ∙ one_of-right k.ys (k.x ∷ []) k.x (one_of-head k.x []) in
    let p = walk_prefix ranks h s popped has w (some_in ranks h s k.x popped w last_in) in
    let below : seen - 1 ≡ length k.ys = omega arith in
    let first : take (seen - 1) p.order ≡ k.ys =
    ap (λ n. take n p.order) below ∙ ap (take (length k.ys)) (p.splits ∙ ap (λ l. l ++ p.rest) k.is ∙ append_assoc k.ys (k.x ∷ []) p.rest)
    ∙ take-append-le (length k.ys) k.ys (k.x ∷ p.rest) (omega arith) ∙ take_all (length k.ys) k.ys (omega arith) in
    record {
      back = ranks.1;
      order = p.order;
      order_is = p.order_is;
      held_is = λ c. (
        (λ m. subst (λ l. IsLedTo h s l c) (sym first) (met_led h s k.ys c (sym (k.met c) ∙ m))),
        (λ l. k.met c ∙ led_met h s k.ys c (subst (λ l. IsLedTo h s l c) first l)),
      );
    }

pub ended_holds : {S A : Type 0} (tie : Tie) (h : History) (s : ObjectId) (names : Names) (cap : ℕ) (w : Walk A) (g : Graphed S ℕ) (full : Bool) → (full ≡ false) ⊎ ((w.candidates.items ≡ []) × (0 < cap)) → MatchBool full (IsFull tie h s names cap w g) (IsEnded tie h s names cap w g)
    → HoldsFirst tie h s w.seen (held_at g)
ended_holds tie h s names cap w g true (inl no') f = absurd (let k : true ≡ false = no' in cc)
ended_holds tie h s names cap w g true (inr k) f = absurd (let z : length w.candidates.items ≡ 0 = ap length k.0 in let y : length w.candidates.items ≡ cap = f.full in let l : 0 < cap = k.1 in omega arith)
ended_holds tie h s names cap w g false d e = holds_of (tie, None) h s e.popped (held_at g) w.seen e.has e.walk e.held e.seen

pub complete_holds : (tie : Tie) (h : History) (s t : ObjectId) (count seen : ℕ) (cut : PutBack) (held : ObjectId → Option ℕ) → IsComplete tie h s t count seen cut held → HoldsFirst tie h s seen held
complete_holds tie h s t count seen cut held e = holds_of (tie, Some cut) h s e.popped held seen e.has e.walk e.held_is e.seen_is
