-- How long a walk from two sides can go on.
use Rattle.std.proofs.Common.{◌≡◌, ℕ, Bool, true, false, refl, ap, List, [], ◌∷◌, ◌||◌, IsTrue, is_some, inl, inr, ◌<◌, ◌≤◌, ◌+◌, ◌*◌, ◌-◌, map, length, arith, cond, Some}
use Rattle.std.specs.List.Sorted.{IsPermutation}
use Rattle.std.proofs.lemmas.List.{length-map}
use Rattle.std.proofs.lemmas.List.Sorted.{length_permutation}
use Rattle.gix_base.specs.declared.hash.ObjectId.{ObjectId}
use Rattle.gix_revwalk.specs.History.{History, Entry, Has, entry_at, is_one_of, same_id}
use Rattle.gix_revwalk.proofs.Ancestors.{has_ancestor}
use Rattle.gix_merge_base.specs.Marks.{MarkSet, marks_in, level}
use Rattle.gix_merge_base.specs.PaintSteps.{Covers, total}
use Rattle.gix_resolve.specs.ReachSides.{Gives, Walked}
use Rattle.gix_resolve.proofs.ReachSides.{either}

-- the ids of a history
abbrev pub keys : History → List ObjectId
keys h = map (λ e. e.0) h

keys_all : (h : History) (c : ObjectId) → Has h c → IsTrue (is_one_of (keys h) c)
keys_all [] c has = cc
keys_all (e ∷ h) c has = elim (same_id c e.0) as (λ b. same_id c e.0 ≡ b → IsTrue (is_some (cond b (Some e.1) (entry_at h c))) → IsTrue (b || is_one_of (keys h) c)) [
  | true ↦ λ s k. refl
  | false ↦ λ s k. keys_all h c k
] refl has

level_bound : (b : Bool) → level b ≤ 1
level_bound true = omega arith
level_bound false = omega arith

total_bound : (ids : List ObjectId) (m : ObjectId → MarkSet) → total ids m ≤ 3 * length ids
total_bound [] m = omega arith
total_bound (x ∷ xs) m = let a = level_bound (m x).one in let b = level_bound (m x).two in let d = level_bound (m x).stale in let e = total_bound xs m in omega arith

-- what is marked is in the history
walked-covers : (h : History) (xs ys : List ObjectId) (both : Bool) (m : ObjectId → MarkSet) (q : List ObjectId) (bound : ℕ) → Walked h xs ys both m q bound → Covers (keys h) m
walked-covers h xs ys both m q bound at p some =
    elim (either (m p).one) as (λ _. IsTrue (is_one_of (keys h) p)) [
      | inl one ↦ let k = at.one p one in keys_all h p (has_ancestor h k.0 p k.2).0
      | inr no_one ↦ elim (either (m p).two) as (λ _. IsTrue (is_one_of (keys h) p)) [
        | inl two ↦ let k = at.two p two in keys_all h p (has_ancestor h k.0 p k.2).0
        | inr no_two ↦
            let a : level (m p).one ≡ 0 = ap level no_one in
            let b : level (m p).two ≡ 0 = ap level no_two in
            let d : level (m p).stale ≡ 0 = ap level (at.fresh p) in
            absurd (omega arith)
      ]
    ]

pub fewer : (h : History) (w : MarkSet) (ps xs ys : List ObjectId) (both : Bool) (m m1 m' : ObjectId → MarkSet) (id : ObjectId) (q q1 q' : List ObjectId) (bound : ℕ) → ((c : ObjectId) → m1 c ≡ m c)
    → IsPermutation q (id ∷ q1) → Gives h both w ps m1 q1 m' q' → Walked h xs ys both m' q' bound
    → length q' + (3 * length h - total (keys h) m') < length q + (3 * length h - total (keys h) m)
fewer h w ps xs ys both m m1 m' id q q1 q' bound same perm did at =
    let s = did.spends (keys h) (walked-covers h xs ys both m' q' bound at) in
    let l = length_permutation q (id ∷ q1) perm in
    let t = total_bound (keys h) m' in
    let k : length (keys h) ≡ length h = length-map h (λ (e : ObjectId × Entry). e.0) in
    let e = same_total (keys h) in
    omega arith
  where
    same_total : (ids : List ObjectId) → total ids m1 ≡ total ids m
    same_total [] = refl
    same_total (x ∷ xs) = let a : marks_in (m1 x) ≡ marks_in (m x) = ap marks_in (same x) in let b = same_total xs in omega arith

pub smaller : (h a b : History) (m m' : ObjectId → MarkSet) (n n' k k' : ℕ) → a ≡ h → b ≡ h → n ≡ k → n' ≡ k' → k' + (3 * length h - total (keys h) m') < k + (3 * length h - total (keys h) m)
    → n' + (3 * length b - total (keys b) m') < n + (3 * length a - total (keys a) m)
smaller h a b m m' n n' k k' ea eb en en' lt = rw (ea, eb, en, en') lt
