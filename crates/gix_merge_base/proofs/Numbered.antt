-- Marks and queued ids, read through the numbers of a graph.
use Rattle.std.proofs.Common.{◌≡◌, ℕ, true, false, cond, refl, ap, sym, subst, ◌∙◌, List, [], ◌∷◌, Option, Some, map, IsTrue, ◌||◌, ◌<◌, ◌+◌, length, take, get_or, arith}
use Rattle.std.specs.List.{AllByRecursion}
use Rattle.std.proofs.lemmas.List.{length-map, get_or-map}
use Rattle.std.specs.Option.{unwrap_or}
use Rattle.std.specs.List.Sorted.{IsPermutation}
use Rattle.std.proofs.lemmas.List.Sorted.{IsPermutation-map, All-permutation}
use Rattle.std.proofs.lemmas.List.Elements.{All-from_recursion, recursion_from_All}
use Rattle.gix_base.specs.declared.hash.ObjectId.{ObjectId}
use Rattle.gix_revwalk.specs.History.{History, same_id, is_one_of}
use Rattle.gix_revwalk.proofs.Ids.{same_id-true}
use Rattle.gix_revwalk.proofs.Members.{one_of-at}
use Rattle.gix_revwalk.specs.Graph.{Graphed, held_len, held_ids}
use Rattle.gix_revwalk.specs.Data.{Marks, mark_at}
use Rattle.gix_revwalk.specs.Number.{place_in}
use Rattle.gix_revwalk.specs.Numbers.{item_at, named}
use Rattle.gix_revwalk.specs.declared.graph.commit.Commit.{Commit}
use Rattle.gix_revwalk.specs.declared.numbers.Mark.{Mark}
use Rattle.gix_revwalk.specs.declared.numbers.Number.{Number}
use Rattle.gix_revwalk.proofs.Growth.{named-there}
use Rattle.gix_merge_base.specs.Marks.{MarkSet, marks_of, joined}
use Rattle.gix_merge_base.specs.PaintSteps.{Hands}
use Rattle.gix_merge_base.specs.PaintQueue.{marks_at, queued_at, id_at, queued_ids, ids_at, no_mark}
use Rattle.gix_merge_base.proofs.Handing.{hands_next}
use Rattle.gix_merge_base.specs.declared.merge_base.flags.Flags.{Flags}

pub named-id : {S T : Type 0} (g : Graphed S T) (k : ℕ) → k < held_len g → named g k ≡ Some (id_at g k)
named-id g k lt = let there = named-there g k lt in there.1 ∙ ap Some (sym (ap (λ o. unwrap_or o (record { 0 = [] })) there.1))

pub ids-same : {S T K : Type 0} (m n : Graphed S T) → held_ids n ≡ held_ids m → (ps : List (K × Number)) → queued_ids n ps ≡ queued_ids m ps
ids-same m n e ps = ap (λ l. map (λ p. unwrap_or (item_at l (place_in p.1)) (record { 0 = [] })) ps) e

-- one more entry
pub ids-pushed : {S T K : Type 0} (m n : Graphed S T) → held_ids n ≡ held_ids m → (key : K) (number : Number) (ps rs : List (K × Number)) → IsPermutation ((key, number) ∷ ps) rs
    → IsPermutation (id_at m (place_in number) ∷ queued_ids m ps) (queued_ids n rs)
ids-pushed {S} {T} {K} m n e key number ps rs perm = rw (ids-same m n e rs) (IsPermutation-map (λ (p : K × Number). id_at m (place_in p.1)) ((key, number) ∷ ps) rs perm)

-- what was given
pub given-marks : {S A : Type 0} (m n : Graphed S (Commit Flags A)) (k : ℕ) (w : Mark Flags) → k < held_len m → Marks m k w n → (c : ObjectId) → marks_at n c ≡ cond (same_id (id_at m k) c) (marks_of w.marks) (marks_at m c)
given-marks m n k w lt given c =
    ap (λ (o : Option (Mark Flags)). marks_of (unwrap_or o no_mark).marks) (given.marks (id_at m k) (named-id m k lt) c)
    ∙ elim (same_id (id_at m k) c) as (λ b. marks_of (unwrap_or (cond b (Some w) (mark_at m c)) no_mark).marks ≡ cond b (marks_of w.marks) (marks_at m c)) [ true ↦ refl | false ↦ refl ]

pub given-queued : {S A : Type 0} (m n : Graphed S (Commit Flags A)) (k : ℕ) (w : Mark Flags) → k < held_len m → Marks m k w n → (c : ObjectId) → queued_at n c ≡ cond (same_id (id_at m k) c) w.queued (queued_at m c)
given-queued m n k w lt given c =
    ap (λ (o : Option (Mark Flags)). (unwrap_or o no_mark).queued) (given.marks (id_at m k) (named-id m k lt) c)
    ∙ elim (same_id (id_at m k) c) as (λ b. (unwrap_or (cond b (Some w) (mark_at m c)) no_mark).queued ≡ cond b w.queued (queued_at m c)) [ true ↦ refl | false ↦ refl ]

-- the marks of both, at one id
pub joined-at : (m : ObjectId → MarkSet) (id : ObjectId) (w x : MarkSet) → x ≡ joined w (m id) → (m' : ObjectId → MarkSet) → ((c : ObjectId) → m' c ≡ cond (same_id id c) x (m c)) → (same_id-is : (c : ObjectId) → same_id id c ≡ true → id ≡ c)
    → (c : ObjectId) → m' c ≡ cond (same_id id c) (joined w (m c)) (m c)
joined-at m id w x is m' marks same c =
    marks c ∙ elim (same_id id c) as (λ b. same_id id c ≡ b → cond b x (m c) ≡ cond b (joined w (m c)) (m c)) [
      | true ↦ λ e. is ∙ ap (λ z. joined w (m z)) (same c e)
      | false ↦ λ _. refl
    ] refl

pub stays-stale : (w a x : MarkSet) → x ≡ joined w a → IsTrue a.stale → IsTrue x.stale
stays-stale w a x is old = ap (λ (z : MarkSet). z.stale) is ∙ ap (λ b. w.stale || b) old ∙ elim w.stale as (λ b. (b || true) ≡ true) [ true ↦ refl | false ↦ refl ]

pub held-permutation : {X : Type 0} (P : X → Type 0) (ps rs : List X) → IsPermutation ps rs → AllByRecursion P ps → AllByRecursion P rs
held-permutation P ps rs perm k = recursion_from_All P rs (All-permutation P ps rs perm (All-from_recursion P ps k))

pub same-len : {S T : Type 0} (m n : Graphed S T) → held_ids n ≡ held_ids m → held_len n ≡ held_len m
same-len m n e = sym (length-map n.held (λ e. e.0)) ∙ ap length e ∙ length-map m.held (λ e. e.0)

-- one entry less
pub ids-popped : {S T K : Type 0} (m n : Graphed S T) → held_ids n ≡ held_ids m → (key : K) (number : Number) (ps rs : List (K × Number)) → IsPermutation ps ((key, number) ∷ rs)
    → IsPermutation (queued_ids m ps) (id_at m (place_in number) ∷ queued_ids n rs)
ids-popped {S} {T} {K} m n e key number ps rs perm = rw (ids-same m n e rs) (IsPermutation-map (λ (p : K × Number). id_at m (place_in p.1)) ps ((key, number) ∷ rs) perm)

-- marks that were given again
pub same-marks : (m m' : ObjectId → MarkSet) (id : ObjectId) (w : MarkSet) → w ≡ m id → ((c : ObjectId) → m' c ≡ cond (same_id id c) w (m c)) → (c : ObjectId) → m' c ≡ m c
same-marks m m' id w is marks c = marks c ∙ elim (same_id id c) as (λ b. same_id id c ≡ b → cond b w (m c) ≡ m c) [
  | true ↦ λ e. is ∙ ap m (same_id-true id c e)
  | false ↦ λ _. refl
] refl

pub id-same : {S T : Type 0} (m n : Graphed S T) → held_ids n ≡ held_ids m → (k : ℕ) → id_at n k ≡ id_at m k
id-same m n e k = ap (λ l. unwrap_or (item_at l k) (record { 0 = [] })) e

-- handing to one number more
pub id-of-item : {S T : Type 0} (m n : Graphed S T) → held_ids n ≡ held_ids m → (ns : List Number) (i : ℕ) (d : Number) → i < length ns → id_at n (place_in (get_or ns i d)) ≡ get_or (ids_at m ns) i (id_at m (place_in d))
id-of-item m n e ns i d lt = id-same m n e (place_in (get_or ns i d)) ∙ sym (get_or-map (λ k. id_at m (place_in k)) ns i d (id_at m (place_in d)) lt)

pub item-listed : {S T : Type 0} (m n : Graphed S T) → held_ids n ≡ held_ids m → (ns : List Number) (i : ℕ) (d : Number) → i < length ns → IsTrue (is_one_of (ids_at m ns) (id_at n (place_in (get_or ns i d))))
item-listed m n e ns i d lt =
    let len = length-map ns (λ (k : Number). id_at m (place_in k)) in
    subst (λ z. IsTrue (is_one_of (ids_at m ns) z)) (sym (id-of-item m n e ns i d lt)) (one_of-at (ids_at m ns) i (id_at m (place_in d)) (omega arith))

pub hands-step : {S T : Type 0} (h : History) (w : MarkSet) (g0 g1 : Graphed S T) → held_ids g1 ≡ held_ids g0 → (ns : List Number) (i : ℕ) (d : Number) → i < length ns → (m m1 m2 : ObjectId → MarkSet) (q q1 q2 : List ObjectId)
    → Hands h w (take i (ids_at g0 ns)) m q m1 q1 → Hands h w (id_at g1 (place_in (get_or ns i d)) ∷ []) m1 q1 m2 q2 → Hands h w (take (i + 1) (ids_at g0 ns)) m q m2 q2
hands-step h w g0 g1 e ns i d lt m m1 m2 q q1 q2 old new =
    let len = length-map ns (λ (k : Number). id_at g0 (place_in k)) in
    hands_next h w (ids_at g0 ns) i (id_at g0 (place_in d)) m m1 m2 q q1 q2 (omega arith) old (subst (λ z. Hands h w (z ∷ []) m1 q1 m2 q2) (id-of-item g0 g1 e ns i d lt) new)

pub same-counts : (n n' : ObjectId → ℕ) (id : ObjectId) (w : ℕ) → w ≡ n id → ((c : ObjectId) → n' c ≡ cond (same_id id c) w (n c)) → (c : ObjectId) → n' c ≡ n c
same-counts n n' id w is marks c = marks c ∙ elim (same_id id c) as (λ b. same_id id c ≡ b → cond b w (n c) ≡ n c) [
  | true ↦ λ e. is ∙ ap n (same_id-true id c e)
  | false ↦ λ _. refl
] refl
