-- Where a walk ends is the least place at which it may.
use Rattle.std.proofs.Common.{◌≡◌, ℕ, zero, suc, true, refl, ap, sym, subst, ◌∙◌, List, [], ◌∷◌, ◌++◌, ◌⊎◌, inl, inr, get_or, length, take, is_some, ◌≤◌, ◌<◌, ◌+◌, ◌-◌, arith, append_assoc, length-append, Option, Some, None}
use Rattle.std.specs.List.{filter}
use Rattle.std.proofs.lemmas.Bool.{cases_lt}
use Rattle.std.proofs.lemmas.List.{length_push, get_or_push, get_or_append_left, take_all, take-append-le}
use Rattle.std.proofs.lemmas.Map.Keys.{IsDistinct-push}
use Rattle.std.proofs.lemmas.Map.Made.{length-le_from_is_member}
use Rattle.gix_base.specs.declared.hash.ObjectId.{ObjectId}
use Rattle.gix_revwalk.specs.History.{History, is_one_of, Has}
use Rattle.gix_revwalk.proofs.Ids.{same_id-laws}
use Rattle.gix_revwalk.proofs.Members.{one_of-left, one_of-right, one_of-cases, one_of-single, one_of-head, one_of-filter, one_of-filtered, distinct_filter}
use Rattle.gix_describe.specs.declared.describe.options.Tie.{Tie}
use Rattle.gix_describe.specs.Described.{Names, IsNamed}
use Rattle.gix_describe.specs.Order.{Ranking, PutBack, tie_rank, GoesOn, Stands, IsSettled, IsFullAt, Stops, IsCut, IsPast, IsCompleted}
use Rattle.gix_describe.specs.Order.GoesOn.{ended, next}
use Rattle.gix_describe.proofs.Settles.{goes_on_from}
use Rattle.gix_describe.specs.Trace.{is_named, IsNext, IsWalk}
use Rattle.gix_describe.specs.WalkState.{IsUnsettledBefore, IsUnsettled, SettlesLast, IsComplete, CompletesLast}
use Rattle.gix_describe.proofs.Early.{In, absent}
use Rattle.gix_describe.proofs.Traces.{Open, open_out, popped_of}
use Rattle.gix_describe.proofs.WalkSteps.{named_of}
use Rattle.gix_describe.proofs.OrderWalks.{before_apart, unlisted_open, open_unlisted}
use Rattle.gix_describe.proofs.Cuts.{LastOf, walk_part, settled_from, settled_to, completed_from, completed_to}

pub record SplitAt (xs : List ObjectId) (i : ℕ) : Type 0 where
  pub ys : List ObjectId
  pub y : ObjectId
  pub z : ObjectId
  pub rest : List ObjectId
  pub is : xs ≡ ys ++ (y ∷ z ∷ rest)
  pub at : length ys ≡ i

split_at : (xs : List ObjectId) (i : ℕ) → i + 1 < length xs → SplitAt xs i
split_at [] i l = absurd (omega arith)
split_at (x ∷ []) i l = absurd (omega arith)
split_at (x ∷ z ∷ xs) zero l = record { ys = []; y = x; z = z; rest = xs; is = refl; at = refl }
split_at (x ∷ z ∷ xs) (suc i) l =
    let r = split_at (z ∷ xs) i (omega arith) in
    record { ys = x ∷ r.ys; y = r.y; z = r.z; rest = r.rest; is = ap (λ k. x ∷ k) r.is; at = ap suc r.at }

pub record LastSplit (xs : List ObjectId) : Type 0 where
  pub ys : List ObjectId
  pub x : ObjectId
  pub is : xs ≡ ys ++ x ∷ []

last_split : (xs : List ObjectId) → 0 < length xs → LastSplit xs
last_split [] l = absurd (omega arith)
last_split (x ∷ []) l = record { ys = []; x = x; is = refl }
last_split (x ∷ z ∷ xs) l = let r = last_split (z ∷ xs) (omega arith) in record { ys = x ∷ r.ys; x = r.x; is = ap (λ k. x ∷ k) r.is }

module _ (tie : Tie) (h : History) (s : ObjectId) (names : Names) (cap : ℕ) (popped cs zs rest : List ObjectId) (has : Has h s) (w : IsWalk (tie, None) h s popped) (are : cs ≡ filter (is_named names) popped) (few : length cs ≤ cap)
    (is : zs ≡ popped ++ rest) (goes_on : GoesOn (tie, None) h s popped zs) (some : 0 < length popped) where
  long : length zs ≡ length popped + length rest
  long = ap length is ∙ length-append popped rest

  -- no room was wanting before
  not_full : (ys : List ObjectId) (y z : ObjectId) (r : List ObjectId) → popped ≡ ys ++ (y ∷ z ∷ r) → ¬ IsFullAt names zs cap (length ys + 1)
  not_full ys y z r e full =
      let upto : List ObjectId = ys ++ y ∷ [] in
      let whole : popped ≡ upto ++ (z ∷ r) = e ∙ sym (append_assoc ys (y ∷ []) (z ∷ r)) in
      let len : length upto ≡ length ys + 1 = length_push ys y in
      let last : LastOf (tie, None) h s upto z = walk_part (tie, None) h s popped upto r z w whole in
      let out : ¬ In upto z = open_out h s upto z last.next.0 in
      let all : zs ≡ upto ++ (z ∷ (r ++ rest)) = is ∙ ap (λ l. l ++ rest) whole ∙ append_assoc upto (z ∷ r) rest in
      let first : take (length ys + 1) zs ≡ upto = ap (take (length ys + 1)) all ∙ take-append-le (length ys + 1) upto (z ∷ (r ++ rest)) (omega (arith, len)) ∙ take_all (length ys + 1) upto (omega (arith, len)) in
      let c = full.1 in
      let at : get_or zs ((length ys + 1 + 1) - 1) c ≡ z = ap (λ n. get_or zs n c) (minus (length ys)) ∙ ap (λ l. get_or l (length ys + 1) c) all ∙ seam upto z (r ++ rest) c (length ys + 1) len in
      let same : c ≡ z = sym full.2.2 ∙ at in
      let l = full.0.0 in
      let z_named : IsNamed names z = subst (λ q. IsNamed names q) same full.3 in
      let fresh : ¬ In l z = λ m. out (ap (λ k. is_one_of k z) (sym first) ∙ (full.0.2 z m).0) in
      let le : length (l ++ z ∷ []) ≤ length (filter (is_named names) popped) = length-le_from_is_member same_id-laws (l ++ z ∷ []) (filter (is_named names) popped)
      (IsDistinct-push same_id-laws l z full.0.1 (absent l z fresh)) (λ q m. elim (one_of-cases l (z ∷ []) q m) as (λ _. is_one_of (filter (is_named names) popped) q ≡ true) [
        | inl k ↦ let cand = full.0.2 q k in one_of-filtered (is_named names) popped q (ap (λ v. is_one_of v q) whole ∙ one_of-left upto (z ∷ r) q (ap (λ v. is_one_of v q) (sym first) ∙ cand.0)) (ap is_some cand.1.1)
        | inr k ↦ subst (λ v. is_one_of (filter (is_named names) popped) v ≡ true) (sym (one_of-single z q k))
            (one_of-filtered (is_named names) popped z (ap (λ v. is_one_of v z) whole ∙ one_of-right upto (z ∷ r) z (one_of-head z r)) (ap is_some z_named.1))
      ]) in
      let more : length (l ++ z ∷ []) ≡ length l + 1 = length_push l z in
      let enough : cap ≤ length l = full.0.3 in
      let same_len : length cs ≡ length (filter (is_named names) popped) = ap length are in
      absurd (omega (arith, le))
    where
      minus : (n : ℕ) → (n + 1 + 1) - 1 ≡ n + 1
      minus n = omega arith

      seam : (u : List ObjectId) (z : ObjectId) (v : List ObjectId) (d : ObjectId) (n : ℕ) → length u ≡ n → get_or (u ++ (z ∷ v)) n d ≡ z
      seam u z v d n e = ap (λ l. get_or l n d) (sym (append_assoc u (z ∷ []) v)) ∙ get_or_append_left (u ++ z ∷ []) v d n (let k : length (u ++ z ∷ []) ≡ length u + 1 = length_push u z in omega arith) ∙ get_or_push u z d n e

  pub least : IsUnsettledBefore tie h s names popped → (j : ℕ) → 1 ≤ j → Stops tie h names zs cap j → length popped ≤ j
  least before j low stops = elim (cases_lt j (length popped)) as (λ _. length popped ≤ j) [
    | inl below ↦
        let r = split_at popped (j - 1) (omega arith) in
        let at : length r.ys + 1 ≡ j = let e : length r.ys ≡ j - 1 = r.at in omega arith in
        absurd (by r below (subst (λ n. Stops tie h names zs cap n) (sym at) stops) at)
    | inr k ↦ k
  ]
    where
      by : (r : SplitAt popped (j - 1)) → j < length popped → Stops tie h names zs cap (length r.ys + 1) → length r.ys + 1 ≡ j → ⊥
      by r below (inl settled) at = before r.ys r.rest r.y r.z r.is (settled_from (tie, None) h s names zs r.ys ((r.z ∷ r.rest) ++ rest) r.y has (walk_part (tie, None) h s popped r.ys (r.z ∷ r.rest) r.y w r.is)
          (is ∙ ap (λ l. l ++ rest) r.is ∙ append_assoc r.ys (r.y ∷ r.z ∷ r.rest) rest) settled)
      by r below (inr (inl full)) at = not_full r.ys r.y r.z r.rest r.is full
      by r below (inr (inr end)) at = absurd (omega (arith, long))

  -- ---- the last place
  pub settled_last : SettlesLast tie h s names popped → IsSettled tie h names zs (length popped)
  settled_last l =
      let n : length l.ys + 1 ≡ length popped = sym (ap length l.is ∙ length_push l.ys l.x) in
      subst (λ k. IsSettled tie h names zs k) n (settled_to (tie, None) h s names zs l.ys rest l.x has (walk_part (tie, None) h s popped l.ys [] l.x w l.is) (is ∙ ap (λ k. k ++ rest) l.is ∙ append_assoc l.ys (l.x ∷ []) rest) l.settled)

  pub end_last : ((c : ObjectId) → ¬ Open h s popped c) → length popped ≡ length zs
  end_last none = by goes_on
    where
      by : {ws : List ObjectId} → GoesOn (tie, None) h s popped ws → length popped ≡ length ws
      by (ended us n) = refl
      by (next us ws c u best more) = absurd (none c (unlisted_open h s popped c u))

  pub cut_ended : IsUnsettledBefore tie h s names popped → SettlesLast tie h s names popped ⊎ ((c : ObjectId) → ¬ Open h s popped c) → IsCut tie h names zs cap (length popped)
  cut_ended before stop = (omega arith, elim stop as (λ _. Stops tie h names zs cap (length popped)) [ inl l ↦ inl (settled_last l) | inr none ↦ inr (inr (end_last none)) ], least before)

  module _ (x : ObjectId) (nx : IsNext (tie, None) h s popped x) (x_named : IsNamed names x) (full : length cs ≡ cap) (s_in : In popped s) where
    -- the next commit of the order is the one that was given up
    after : (v : List ObjectId) × (zs ≡ (popped ++ x ∷ []) ++ v)
    after = by goes_on
      where
        by : {ws : List ObjectId} → GoesOn (tie, None) h s popped ws → (v : List ObjectId) × (ws ≡ (popped ++ x ∷ []) ++ v)
        by (ended us n) = absurd (n x (open_unlisted h s popped x s_in nx.0))
        by {ws = ws} (next us vs c u best more) =
            let same : c ≡ x = elim (nx.1 c (unlisted_open h s popped c u)) as (λ _. c ≡ x) [
              | inl e ↦ e
              | inr a ↦ elim (best x (open_unlisted h s popped x s_in nx.0)) as (λ _. c ≡ x) [ inl e ↦ sym e | inr b ↦ absurd (before_apart (tie_rank (tie, None) h s popped) h x c a b) ]
            ] in
            let r = goes_on_from (tie, None) h s (popped ++ c ∷ []) ws more in
            (r.0, r.1 ∙ ap (λ q. (popped ++ q ∷ []) ++ r.0) same)

    pub stands_next : Stands zs (length popped + 1) x
    stands_next =
        let len : length (popped ++ x ∷ []) ≡ length popped + 1 = length_push popped x in
        let all : length zs ≡ length (popped ++ x ∷ []) + length after.0 = ap length after.1 ∙ length-append (popped ++ x ∷ []) after.0 in
        (omega arith, omega (arith, len, all), ap (λ n. get_or zs n x) (minus (length popped)) ∙ ap (λ l. get_or l (length popped) x) after.1 ∙ get_or_append_left (popped ++ x ∷ []) after.0 x (length popped) (omega (arith, len)) ∙ get_or_push popped x x (length popped) refl)
      where
        minus : (n : ℕ) → (n + 1) - 1 ≡ n
        minus n = omega arith

    pub full_last : IsFullAt names zs cap (length popped)
    full_last =
        let first : take (length popped) zs ≡ popped = ap (take (length popped)) is ∙ take-append-le (length popped) popped rest (omega arith) ∙ take_all (length popped) popped (omega arith) in
        let same_len : length cs ≡ length (filter (is_named names) popped) = ap length are in (
          (
            filter (is_named names) popped,
            distinct_filter (is_named names) popped (popped_of (tie, None) h s popped has w).once,
            (λ c m. let r = one_of-filter (is_named names) popped c m in (ap (λ l. is_one_of l c) first ∙ r.0, named_of names c r.1)),
            omega arith,
          ),
          x,
          stands_next,
          x_named,
        )

    pub cut_full : IsUnsettled tie h s names popped → IsCut tie h names zs cap (length popped)
    cut_full going = (omega arith, inr (inl full_last), least (λ ys r a b e. going ys (b ∷ r) a e))

    -- at a full stop the walk was not settled, and something is left
    pub past_full : IsUnsettled tie h s names popped → IsSettled tie h names zs (length popped) ⊎ (length popped ≡ length zs) → ⊥
    past_full going (inl st) =
        let r = last_split popped some in
        let n : length r.ys + 1 ≡ length popped = sym (ap length r.is ∙ length_push r.ys r.x) in
        going r.ys [] r.x r.is (settled_from (tie, None) h s names zs r.ys rest r.x has (walk_part (tie, None) h s popped r.ys [] r.x w r.is) (is ∙ ap (λ k. k ++ rest) r.is ∙ append_assoc r.ys (r.x ∷ []) rest) (subst (λ k. IsSettled tie h names zs k) (sym n) st))
    past_full going (inr e) = let st = stands_next in absurd (omega (arith, st.1))

-- ---- past the cut
order_ended : (ranks : Ranking) (h : History) (s : ObjectId) (popped ws : List ObjectId) → ((c : ObjectId) → ¬ Open h s popped c) → GoesOn ranks h s popped ws → length popped ≡ length ws
order_ended ranks h s popped ws none (ended us n) = refl
order_ended ranks h s popped ws none (next us ws' c u best more) = absurd (none c (unlisted_open h s popped c u))

module _ {held : ObjectId → Option ℕ} (tie : Tie) (h : History) (s t : ObjectId) (count seen : ℕ) (cut : PutBack) (zs rest : List ObjectId) (e : IsComplete tie h s t count seen cut held) (is : zs ≡ e.popped ++ rest) (goes_on : GoesOn (tie, Some cut) h s e.popped zs) where
  in_order : (ys r : List ObjectId) (x : ObjectId) → e.popped ≡ ys ++ (x ∷ r) → zs ≡ ys ++ (x ∷ (r ++ rest))
  in_order ys r x p = is ∙ ap (λ l. l ++ rest) p ∙ append_assoc ys (x ∷ r) rest

  complete_there : CompletesLast h s t e.popped → IsCompleted h zs t seen
  complete_there l =
      let n : length l.ys + 1 ≡ length e.popped = sym (ap length l.is ∙ length_push l.ys l.x) in
      subst (λ k. IsCompleted h zs t k) (n ∙ sym e.seen_is) (completed_to (tie, Some cut) h s [] zs l.ys rest l.x e.has (walk_part (tie, Some cut) h s e.popped l.ys [] l.x e.walk l.is) (in_order l.ys [] l.x l.is) t (one_of-left l.ys (l.x ∷ []) t l.in_ys) l.completed)

  pub past_is : IsPast h zs t (length cut.0) seen
  past_is =
      let long : length zs ≡ length e.popped + length rest = ap length is ∙ length-append e.popped rest in
      let far : length cut.0 < length e.popped = e.past in
      let seen_is : seen ≡ length e.popped = e.seen_is in (
        omega arith,
        omega arith,
        elim e.stop as (λ _. IsCompleted h zs t seen ⊎ (seen ≡ length zs)) [ inl l ↦ inl (complete_there l) | inr none ↦ inr (seen_is ∙ order_ended (tie, Some cut) h s e.popped zs none goes_on) ],
        λ j low cd. elim (cases_lt j seen) as (λ _. seen ≤ j) [
          | inl below ↦
              let r = split_at e.popped (j - 1) (omega arith) in
              let at : length r.ys ≡ j - 1 = r.at in
              let one : j ≡ length r.ys + 1 = omega arith in
              absurd (e.before r.ys r.rest r.y r.z r.is (omega arith)
              (completed_from (tie, Some cut) h s [] zs r.ys ((r.z ∷ r.rest) ++ rest) r.y e.has (walk_part (tie, Some cut) h s e.popped r.ys (r.z ∷ r.rest) r.y e.walk r.is) (in_order r.ys (r.z ∷ r.rest) r.y r.is) t (subst (λ k. IsCompleted h zs t k) one cd)))
          | inr k ↦ k
        ],
      )
