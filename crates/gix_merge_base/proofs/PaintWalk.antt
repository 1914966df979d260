-- The whole of what holds between two pops, and what painting promises at its end.
use Rattle.std.proofs.Common.{◌≡◌, ℕ, Bool, true, false, cond, refl, ap, sym, subst, ◌∙◌, List, [], ◌∷◌, ◌⊎◌, inl, inr, ◌||◌, not, IsTrue, is_some, ◌+◌, ◌*◌, ◌≤◌, length, arith, map, Option, Some, None, ◌<◌, ◌^◌}
use Rattle.std.specs.List.Sorted.{IsPermutation}
use Rattle.std.proofs.lemmas.List.Sorted.{list_any-IsPermutation, length_permutation}
use Rattle.gix_base.specs.declared.hash.ObjectId.{ObjectId}
use Rattle.gix_merge_base.specs.declared.merge_base.flags.Flags.{Flags}
use Rattle.gix_revwalk.specs.History.{History, entry_at, parents_in, Has, is_one_of, same_id}
use Rattle.gix_merge_base.specs.Keys.{KeyAtMost}
use Rattle.gix_merge_base.specs.Premises.{KeysFallFrom, NoneRisesFrom}
use Rattle.gix_merge_base.specs.Bases.{IsCommon, IsMaximal}
use Rattle.gix_merge_base.specs.Painting.{MayBeMet, MayBeTaken}
use Rattle.gix_merge_base.specs.Marks.{marks_of, MarkSet, HasMarksOf, handed_on, marks_in, level}
use Rattle.gix_merge_base.specs.PaintSteps.{Hands, Covers, total, results_after, Notes, Steps}
use Rattle.std.specs.Map.{lookup}
use Rattle.std.specs.Option.{option_map, unwrap_or}
use Rattle.gix_revwalk.specs.declared.graph.commit.Commit.{Commit}
use Rattle.gix_revwalk.specs.Graph.{Graphed, held_len, held_at}
use Rattle.gix_revwalk.specs.Data.{mark_with}
use Rattle.gix_merge_base.specs.PaintQueue.{marks_at, no_mark}
use Rattle.gix_merge_base.specs.Counting.{unstale}
use Rattle.std.proofs.lemmas.List.Sums.{sum_by-cons}
use Rattle.std.proofs.Math.Path.{fun_ext}
use Rattle.gix_revwalk.proofs.Members.{one_of-head, one_of-tail, one_of-cons_cases}
use Rattle.gix_merge_base.proofs.Painting.{Handed, Painting, popped_keeps, grew, marked_has, marked_reached, reached_further}
use Rattle.gix_merge_base.proofs.PaintingEnds.{Fresh, Ordered, fresh_keeps, results_best, ordered_keeps, parents_may}

-- between two pops; `held` are the ids that are held, and `began` those at the start
pub record IsWalk (h : History) (f : ObjectId) (os : List ObjectId) (began held : ObjectId → Type 0) (m : ObjectId → MarkSet) (q results : List ObjectId) (pops : ℕ) : Type 0 where
  pub popped : List ObjectId
  pub counts : pops ≡ length popped
  pub painting : Painting h f os m q results popped
  pub spent : (ids : List ObjectId) → Covers ids m → length popped + length q ≤ (1 + length os) + total ids m
  pub fresh : KeysFallFrom h (f ∷ os) → Fresh h f os m q
  pub best : KeysFallFrom h (f ∷ os) → (r : ObjectId) → IsTrue (is_one_of results r) → IsMaximal h (IsCommon h f os) r
  pub ordered : NoneRisesFrom h (f ∷ os) → Ordered h q results
  pub taken : KeysFallFrom h (f ∷ os) → (p : ObjectId) → held p → began p ⊎ MayBeTaken h f os p
  pub met : (p : ObjectId) → held p → began p ⊎ MayBeMet h f os p

painting_permuted : (h : History) (f : ObjectId) (os : List ObjectId) (m : ObjectId → MarkSet) (q q' results popped : List ObjectId) → IsPermutation q q' → Painting h f os m q results popped → Painting h f os m q' results popped
painting_permuted h f os m q q' results popped perm at =
    let inside : (c : ObjectId) → is_one_of q c ≡ is_one_of q' c = λ c. list_any-IsPermutation (same_id c) q q' perm in
    record {
      first = at.first;
      others = at.others;
      one = at.one;
      two = at.two;
      stale = at.stale;
      reached = at.reached;
      begun = at.begun;
      both = at.both;
      queued = λ c k. at.queued c (inside c ∙ k);
      settled = λ c. elim (at.settled c) as (λ _. IsTrue (is_one_of q' c) ⊎ Handed h m results popped c) [ inl k ↦ inl (sym (inside c) ∙ k) | inr d ↦ inr d ];
      noted = at.noted;
      common = at.common;
      once = at.once;
    }

pub walk_permuted : (h : History) (f : ObjectId) (os : List ObjectId) (began held : ObjectId → Type 0) (m : ObjectId → MarkSet) (q q' results : List ObjectId) (pops : ℕ)
    → IsPermutation q q' → IsWalk h f os began held m q results pops → IsWalk h f os began held m q' results pops
walk_permuted h f os began held m q q' results pops perm w =
    let inside : (c : ObjectId) → is_one_of q c ≡ is_one_of q' c = λ c. list_any-IsPermutation (same_id c) q q' perm in
    let l : length q' ≡ length q = length_permutation q q' perm in
    record {
      popped = w.popped;
      counts = w.counts;
      painting = painting_permuted h f os m q q' results w.popped perm w.painting;
      spent = λ ids covers. let s = w.spent ids covers in omega arith;
      fresh = λ falls z k. w.fresh falls z (inside z ∙ k);
      best = w.best;
      ordered = λ none. let o = w.ordered none in record { falling = o.falling; above = λ r z k j. o.above r z k (inside z ∙ j) };
      taken = w.taken;
      met = w.met;
    }

-- what is taken in with the parents of a queued commit
pub met_next : (h : History) (f : ObjectId) (os : List ObjectId) (began held held' : ObjectId → Type 0) (m : ObjectId → MarkSet) (id : ObjectId) (q results : List ObjectId) (pops : ℕ)
    → IsWalk h f os began held m q results pops → IsTrue (is_one_of q id)
    → ((p : ObjectId) → held' p → held p ⊎ (IsTrue (is_one_of (parents_in (entry_at h id)) p) × Has h p))
    → (p : ObjectId) → held' p → began p ⊎ MayBeMet h f os p
met_next h f os began held held' m id q results pops w queued takes p k = elim (takes p k) as (λ _. began p ⊎ MayBeMet h f os p) [
  | inl a ↦ w.met p a
  | inr e ↦ inr (inr (reached_further h f os id p (marked_reached h f os m q results w.popped w.painting id (w.painting.queued id queued)) e))
]

-- a pop of c
module _ (h : History) (f : ObjectId) (os : List ObjectId) (began held held' : ObjectId → Type 0) (m m1 m2 : ObjectId → MarkSet) (c : ObjectId) (q q2 results : List ObjectId) (pops : ℕ)
    (w : IsWalk h f os began held m (c ∷ q) results pops) (note : Notes m c m1) (did : Hands h (handed_on (m c)) (parents_in (entry_at h c)) m1 q m2 q2)
    (top : (z : ObjectId) → IsTrue (is_one_of (c ∷ q) z) → KeyAtMost h z c)
    (takes : (p : ObjectId) → held' p → held p ⊎ (IsTrue (is_one_of (parents_in (entry_at h c)) p) × Has h p))
    (z : ObjectId) (z_in : IsTrue (is_one_of (c ∷ q) z)) (z_open : (m z).stale ≡ false) where
  pub walk_goes : IsWalk h f os began held' m2 q2 (results_after m c results) (pops + 1)
  walk_goes = record {
    popped = c ∷ w.popped;
    counts = let e = w.counts in omega arith;
    painting = popped_keeps h f os m m1 m2 c q q2 results w.popped w.painting note did;
    spent = λ ids covers.
        let s = w.spent ids (λ p k. covers p (omega (arith, marks_in-grow (m p) (m2 p) (grew h f os m m1 m2 c q q2 results w.popped w.painting note did p)))) in
        let t = did.spends ids covers in
        let e : total ids m1 ≡ total ids m = total_same ids m m1 (λ p. let x = note.same p in rw (x.0, x.1, x.2) refl) in
        omega arith;
    fresh = λ falls. fresh_keeps h f os m m1 m2 c q q2 results w.popped w.painting note did top falls (w.fresh falls);
    best = λ falls. results_best h f os m m1 m2 c q q2 results w.popped w.painting note did top falls (w.best falls);
    ordered = λ none. ordered_keeps h f os m m1 m2 c q q2 results w.popped w.painting note did top none (w.ordered none);
    taken = λ falls p k. elim (takes p k) as (λ _. began p ⊎ MayBeTaken h f os p) [
      | inl a ↦ w.taken falls p a
      | inr e ↦ inr (parents_may h f os m m1 m2 c q q2 results w.popped w.painting note did top (w.fresh falls) z z_in z_open p e)
    ];
    met = λ p k. met_next h f os began held held' m c (c ∷ q) results pops w (one_of-head c q) takes p k;
  }
    where
      level_grows : (a b : Bool) → (IsTrue a → IsTrue b) → level a ≤ level b
      level_grows true b k = rw (k refl) (omega arith)
      level_grows false b k = omega arith

      marks_in-grow : (a b : MarkSet) → HasMarksOf a b → marks_in a ≤ marks_in b
      marks_in-grow a b g = let x = level_grows a.one b.one g.one in let y = level_grows a.two b.two g.two in let u = level_grows a.stale b.stale g.stale in omega arith

      total_same : (ids : List ObjectId) (a b : ObjectId → MarkSet) → ((p : ObjectId) → marks_in (b p) ≡ marks_in (a p)) → total ids b ≡ total ids a
      total_same [] a b k = refl
      total_same (x ∷ xs) a b k = let i = k x in let j = total_same xs a b k in omega arith

pub total_bound : (ids : List ObjectId) (m : ObjectId → MarkSet) → total ids m ≤ 3 * length ids
total_bound [] m = omega arith
total_bound (x ∷ xs) m = let a = level_bound (m x).one in let b = level_bound (m x).two in let d = level_bound (m x).stale in let e = total_bound xs m in omega arith
  where
    level_bound : (b : Bool) → level b ≤ 1
    level_bound true = omega arith
    level_bound false = omega arith

-- what is marked is held, and a graph holds few
pub pops_fit : {S A : Type 0} (h : History) (f : ObjectId) (os : List ObjectId) (began held : ObjectId → Type 0) (g : Graphed S (Commit Flags A)) (q results : List ObjectId) (pops : ℕ)
    → IsWalk h f os began held (marks_at g) q results pops → held_len g < 2 ^ 64 → pops ≤ (1 + length os) + 3 * 2 ^ 64
pops_fit {S} {A} h f os began held g q results pops w few =
    let ids = map (λ (e : ObjectId × Commit Flags A). e.0) g.held in
    let s = w.spent ids (λ p k. keys_all g.held p (held_marked (unwrap_or (lookup (same_id p) g.marked) None) (held_at g p) k)) in
    let b = total_bound ids (marks_at g) in
    let e = w.counts in
    let l = length_keys g.held in
    omega arith
  where
    length_keys : (xs : List (ObjectId × Commit Flags A)) → length (map (λ e. e.0) xs) ≡ length xs
    length_keys [] = refl
    length_keys (e ∷ xs) = let r = length_keys xs in omega arith

    held_marked : (o : Option ℕ) (x : Option (Commit Flags A)) → 1 ≤ marks_in (marks_of (unwrap_or (mark_with o (option_map (λ (c : Commit Flags A). c.«data») x)) no_mark).marks) → IsTrue (is_some x)
    held_marked o (Some c) k = refl
    held_marked None None k = absurd (omega arith)
    held_marked (Some n) None k = absurd (omega arith)

    keys_all : (xs : List (ObjectId × Commit Flags A)) (p : ObjectId) → IsTrue (is_some (lookup (same_id p) xs)) → IsTrue (is_one_of (map (λ e. e.0) xs) p)
    keys_all [] p has = cc
    keys_all (e ∷ xs) p has = elim (same_id p e.0) as (λ s. IsTrue (is_some (cond s (Some e.1) (lookup (same_id p) xs))) → IsTrue (s || is_one_of (map (λ e. e.0) xs) p)) [
      | true ↦ λ k. refl
      | false ↦ λ k. keys_all xs p k
    ] has

pub pops_bound : (h : History) (f : ObjectId) (os : List ObjectId) (began held : ObjectId → Type 0) (m : ObjectId → MarkSet) (q results : List ObjectId) (pops : ℕ) → IsWalk h f os began held m q results pops
    → (ids : List ObjectId) → ((p : ObjectId) → Has h p → IsTrue (is_one_of ids p)) → pops + length q ≤ (1 + length os) + 3 * length ids
pops_bound h f os began held m q results pops w ids all =
    let s = w.spent ids (λ p k. all p (marked_has h f os m q results w.popped w.painting p k)) in
    let b = total_bound ids m in
    let e = w.counts in
    omega arith

-- the queue has a commit that is not stale
some_open : (m : ObjectId → MarkSet) (q : List ObjectId) → 1 ≤ unstale m q → (z : ObjectId) × IsTrue (is_one_of q z) × ((m z).stale ≡ false)
some_open m [] k = absurd (omega arith)
some_open m (x ∷ xs) k =
    let b = sum_by-cons (λ y. level (not (m y).stale)) x xs in
    elim (m x).stale as (λ s. (m x).stale ≡ s → (z : ObjectId) × IsTrue (is_one_of (x ∷ xs) z) × ((m z).stale ≡ false)) [
      | false ↦ λ e. (x, one_of-head x xs, e)
      | true ↦ λ e. let l : level (not (m x).stale) ≡ 0 = ap (λ z. level (not z)) e in let r = some_open m xs (omega arith) in (r.0, one_of-tail x xs r.0 r.1, r.2)
    ] refl

-- each commit of the queue is stale
pub all_stale : (m : ObjectId → MarkSet) (q : List ObjectId) → unstale m q ≡ 0 → (c : ObjectId) → IsTrue (is_one_of q c) → IsTrue (m c).stale
all_stale m [] k c i = cc
all_stale m (x ∷ xs) k c i =
    let b = sum_by-cons (λ y. level (not (m y).stale)) x xs in
    elim (m x).stale as (λ s. (m x).stale ≡ s → IsTrue (m c).stale) [
      | false ↦ λ e. let l : level (not (m x).stale) ≡ 1 = ap (λ z. level (not z)) e in absurd (omega arith)
      | true ↦ λ e. elim (one_of-cons_cases x xs c i) as (λ _. IsTrue (m c).stale) [
        | inl is ↦ subst (λ z. IsTrue (m z).stale) (sym is) e
        | inr r ↦ all_stale m xs (omega arith) c r
      ]
    ] refl

-- a pop, which moves no mark, and the step after it
pub walk_pops : (h : History) (f : ObjectId) (os : List ObjectId) (began held held' : ObjectId → Type 0) (m0 m m2 : ObjectId → MarkSet) (id : ObjectId) (q0 q1 q2 results : List ObjectId) (pops : ℕ)
    → ((c : ObjectId) → m c ≡ m0 c)
    → IsWalk h f os began held m0 q0 results pops → IsPermutation q0 (id ∷ q1) → ((z : ObjectId) → IsTrue (is_one_of q0 z) → KeyAtMost h z id)
    → 1 ≤ unstale m0 q0 → Steps h id m q1 m2 q2
    → ((p : ObjectId) → held' p → held p ⊎ (IsTrue (is_one_of (parents_in (entry_at h id)) p) × Has h p))
    → IsWalk h f os began held' m2 q2 (results_after m id results) (pops + 1)
walk_pops h f os began held held' m0 m m2 id q0 q1 q2 results pops same w rest top open_one steps takes =
    let inside : (c : ObjectId) → is_one_of q0 c ≡ is_one_of (id ∷ q1) c = λ c. list_any-IsPermutation (same_id c) q0 (id ∷ q1) rest in
    let z = some_open m0 q0 open_one in
    let eq : m0 ≡ m = fun_ext (λ c. sym (same c)) in
    walk_goes h f os began held held' m steps.0 m2 id q1 q2 results pops (walk_permuted h f os began held m q0 (id ∷ q1) results pops rest (subst (λ y. IsWalk h f os began held y q0 results pops) eq w)) steps.1 steps.2
    (λ y k. top y (inside y ∙ k)) takes z.0 (sym (inside z.0) ∙ z.1) (ap (λ (x : MarkSet). x.stale) (same z.0) ∙ z.2)

-- what a step has taken in, also where it was refused
pub step_takes : (h : History) (f : ObjectId) (os : List ObjectId) (began held held' : ObjectId → Type 0) (m : ObjectId → MarkSet) (id : ObjectId) (q0 q1 results : List ObjectId) (pops : ℕ)
    → IsWalk h f os began held m q0 results pops → IsPermutation q0 (id ∷ q1) → ((z : ObjectId) → IsTrue (is_one_of q0 z) → KeyAtMost h z id) → 1 ≤ unstale m q0
    → ((p : ObjectId) → held' p → held p ⊎ (IsTrue (is_one_of (parents_in (entry_at h id)) p) × Has h p))
    → KeysFallFrom h (f ∷ os) → (p : ObjectId) → held' p → began p ⊎ MayBeTaken h f os p
step_takes h f os began held held' m id q0 q1 results pops w rest top open_one takes falls p k =
    let z = some_open m q0 open_one in
    let id_in : IsTrue (is_one_of q0 id) = list_any-IsPermutation (same_id id) q0 (id ∷ q1) rest ∙ one_of-head id q1 in
    elim (takes p k) as (λ _. began p ⊎ MayBeTaken h f os p) [
      | inl a ↦ w.taken falls p a
      | inr e ↦ elim (w.fresh falls z.0 z.1) as (λ _. began p ⊎ MayBeTaken h f os p) [
        | inl stale ↦ let none = z.2 in cc
        | inr o ↦ inr (inr (id, marked_reached h f os m q0 results w.popped w.painting id (w.painting.queued id id_in), e, z.0, o.0, o.1, top z.0 z.1))
      ]
    ]

-- what a step has met, also where it was refused
pub step_meets : (h : History) (f : ObjectId) (os : List ObjectId) (began held held' : ObjectId → Type 0) (m : ObjectId → MarkSet) (id : ObjectId) (q0 q1 results : List ObjectId) (pops : ℕ)
    → IsWalk h f os began held m q0 results pops → IsPermutation q0 (id ∷ q1)
    → ((p : ObjectId) → held' p → held p ⊎ (IsTrue (is_one_of (parents_in (entry_at h id)) p) × Has h p))
    → (p : ObjectId) → held' p → began p ⊎ MayBeMet h f os p
step_meets h f os began held held' m id q0 q1 results pops w rest takes p k =
    met_next h f os began held held' m id q0 results pops w (list_any-IsPermutation (same_id id) q0 (id ∷ q1) rest ∙ one_of-head id q1) takes p k

-- the ids of a history
pub length_keys : (h : History) → length (map (λ e. e.0) h) ≡ length h
length_keys [] = refl
length_keys (e ∷ h) = let r = length_keys h in omega arith

pub keys_all : (h : History) (p : ObjectId) → Has h p → IsTrue (is_one_of (map (λ e. e.0) h) p)
keys_all [] p has = cc
keys_all (e ∷ h) p has = elim (same_id p e.0) as (λ s. IsTrue (is_some (cond s (Some e.1) (entry_at h p))) → IsTrue (s || is_one_of (map (λ e. e.0) h) p)) [
  | true ↦ λ k. refl
  | false ↦ λ k. keys_all h p k
] has

-- pops are left while something is queued
pub pops_left : (h : History) (f : ObjectId) (os : List ObjectId) (began held : ObjectId → Type 0) (m : ObjectId → MarkSet) (id : ObjectId) (q0 q1 results : List ObjectId) (pops : ℕ)
    → IsWalk h f os began held m q0 results pops → IsPermutation q0 (id ∷ q1) → pops + 1 ≤ (1 + length os) + 3 * length h
pops_left h f os began held m id q0 q1 results pops w rest =
    let b = pops_bound h f os began held m q0 results pops w (map (λ e. e.0) h) (keys_all h) in
    let l : length (id ∷ q1) ≡ length q0 = length_permutation q0 (id ∷ q1) rest in
    let k : length (map (λ e. e.0) h) ≡ length h = length_keys h in
    omega arith
