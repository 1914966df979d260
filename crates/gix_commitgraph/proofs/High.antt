-- Levels that fall in a chain of files.
use Rattle.std.proofs.Common.{◌≡◌, ℕ, ◌-◌, ◌^◌, ◌<◌, ◌≤◌, inl, inr, List, [], ◌∷◌, ◌++◌, length, drop, Option, Some, None, is_some, Bool, true, false, ◌&&◌, ◌||◌, cond, nat_lt, IsTrue, refl, sym, ap, ◌∙◌, subst, arith}
use Rattle.std.proofs.lemmas.Bool.Decides.{nat_tests}
use Rattle.std.proofs.lemmas.List.{length-append}
use Rattle.std.proofs.Math.Seq.{drop-append_seam}
use Rattle.std.specs.List.{list_all}
use Rattle.std.specs.Option.{unwrap_or}
use Rattle.gix_base.specs.declared.hash.ObjectId.{ObjectId}
use Rattle.gix_revwalk.specs.History.{History, Entry, Has, entry_at, generation_in, generation_of, is_one_of, parents_in, same_id}
use Rattle.gix_revwalk.proofs.Members.{one_of-cons_cases}
use Rattle.gix_commitgraph.specs.ChainCommits.{ids_of}
use Rattle.gix_commitgraph.specs.ChainLevels.{is_high, is_low, over_in}
use Rattle.gix_commitgraph.specs.FileLevels.{IsLevelled}
use Rattle.gix_commitgraph.proofs.Falling.{both}
use Rattle.gix_commitgraph.proofs.Joins.{first-has, first-lacks, has-or-lacks}
use Rattle.gix_commitgraph.proofs.Layers.{ids-append}

-- ---- histories of the same commits

module _ (j h : History) (same : (q : ObjectId) → entry_at j q ≡ entry_at h q) where
  low-same : (n : ℕ) (ps : List ObjectId) → list_all (is_low j n) ps ≡ list_all (is_low h n) ps
  low-same n [] = refl
  low-same n (p ∷ ps) =
      ap (λ (o : Option Entry). (is_some o && nat_lt (generation_in o) n) && list_all (is_low j n) ps) (same p)
      ∙ ap (λ b. is_low h n p && b) (low-same n ps)

  over-same : (o : Option Entry) → over_in j o ≡ over_in h o
  over-same None = refl
  over-same (Some e) = ap (λ b. nat_lt (unwrap_or e.generation (2 ^ 32 - 1)) (2 ^ 32 - 1) && b) (low-same (unwrap_or e.generation (2 ^ 32 - 1)) e.parents)

  high-same : (xs : List ObjectId) → list_all (is_high j) xs ≡ list_all (is_high h) xs
  high-same [] = refl
  high-same (x ∷ xs) =
      ap (λ b. b && list_all (is_high j) xs) (over-same (entry_at j x) ∙ ap (over_in h) (same x))
      ∙ ap (λ b. is_high h x && b) (high-same xs)

-- the ids after those of the lowest file
pub upper-fit : (h u : History) (ids0 ids1 : List ObjectId) → ids0 ≡ ids_of h → ids1 ≡ ids_of (h ++ u) → length ids0 ≤ length ids1
upper-fit h u ids0 ids1 is0 is1 =
    let a = ap length is0 in
    let b = ap length (is1 ∙ ids-append h u) in
    let e = length-append (ids_of h) (ids_of u) in
    omega arith

upper-ids : (h u : History) (ids0 ids1 : List ObjectId) (n : ℕ) → n ≡ length ids0 → ids0 ≡ ids_of h → ids1 ≡ ids_of (h ++ u) → drop n ids1 ≡ ids_of u
upper-ids h u ids0 ids1 n count is0 is1 =
    ap (λ m. drop m ids1) (count ∙ ap length is0) ∙ ap (drop (length (ids_of h))) (is1 ∙ ids-append h u) ∙ drop-append_seam (ids_of h) (ids_of u)

-- the test tells of the chain
pub high-tells : (j h u : History) (ids0 ids1 : List ObjectId) (n : ℕ) → ((q : ObjectId) → entry_at j q ≡ entry_at (h ++ u) q) → n ≡ length ids0 → ids0 ≡ ids_of h → ids1 ≡ ids_of (h ++ u)
    → (b : Bool) → b ≡ list_all (is_high j) (drop n ids1) → b ≡ list_all (is_high (h ++ u)) (ids_of u)
high-tells j h u ids0 ids1 n same count is0 is1 b is =
    is ∙ ap (list_all (is_high j)) (upper-ids h u ids0 ids1 n count is0 is1) ∙ high-same j (h ++ u) same (ids_of u)

-- ---- levelled

all-at : (f : ObjectId → Bool) (xs : List ObjectId) (a : ObjectId) → list_all f xs ≡ true → IsTrue (is_one_of xs a) → f a ≡ true
all-at f [] a all here = let none : false ≡ true = here in cc
all-at f (x ∷ xs) a all here =
    let at = both (f x) (list_all f xs) all in
    elim (one_of-cons_cases x xs a here) [
      | inl e ↦ ap f e ∙ at.0
      | inr more ↦ all-at f xs a at.1 more
    ]

is-one : (u : History) (q : ObjectId) → is_one_of (ids_of u) q ≡ is_some (entry_at u q)
is-one [] q = refl
is-one (x ∷ u) q = elim (same_id q x.0) as (λ b. (b || is_one_of (ids_of u) q) ≡ is_some (cond b (Some x.1) (entry_at u q))) [
  | true ↦ refl
  | false ↦ is-one u q
]

record High (k : History) (o : Option Entry) : Type 0 where
  known : generation_in o < 2 ^ 32 - 1
  low : (b : ObjectId) → IsTrue (is_one_of (parents_in o) b) → is_low k (generation_in o) b ≡ true

high-of : (k : History) (o : Option Entry) → over_in k o ≡ true → High k o
high-of k None t = let wrong : false ≡ true = t in cc
high-of k (Some e) t =
    let g : ℕ = unwrap_or e.generation (2 ^ 32 - 1) in
    let p = both (nat_lt g (2 ^ 32 - 1)) (list_all (is_low k g) e.parents) t in
    let less : g < 2 ^ 32 - 1 = grind (arith, nat_tests, p.0) in
    record { known = less; low = λ b here. all-at (is_low k g) e.parents b p.1 here }

no-parent : (o : Option Entry) (b : ObjectId) → o ≡ None → IsTrue (is_one_of (parents_in o) b) → ⊥
no-parent None b e here = let wrong : false ≡ true = here in cc
no-parent (Some x) b e here = cc

module _ (h u : History) (levelled : IsLevelled h) (all : list_all (is_high (h ++ u)) (ids_of u) ≡ true) where
  upper : (a : ObjectId) → entry_at h a ≡ None → Has (h ++ u) a → High (h ++ u) (entry_at (h ++ u) a)
  upper a none has =
      let in-u : IsTrue (is_some (entry_at u a)) = sym (ap is_some (first-lacks h u a none)) ∙ has in
      high-of (h ++ u) (entry_at (h ++ u) a) (all-at (is_high (h ++ u)) (ids_of u) a all (is-one u a ∙ in-u))

  still : (a : ObjectId) → Has h a → Has (h ++ u) a
  still a has = ap is_some (first-has h u a has) ∙ has

  low-of : (a b : ObjectId) → entry_at h a ≡ None → IsTrue (is_one_of (parents_in (entry_at (h ++ u) a)) b) → is_low (h ++ u) (generation_of (h ++ u) a) b ≡ true
  low-of a b none parent =
      elim (has-or-lacks (entry_at (h ++ u) a)) [
        | inl has ↦ (upper a none has).low b parent
        | inr lacks ↦ absurd (no-parent (entry_at (h ++ u) a) b lacks parent)
      ]

  below : (a b : ObjectId) → Has h a → IsTrue (is_one_of (parents_in (entry_at (h ++ u) a)) b) → IsTrue (is_one_of (parents_in (entry_at h a)) b)
  below a b has parent = let P : Option Entry → Type 0 = λ o. IsTrue (is_one_of (parents_in o) b) in subst P (first-has h u a has) parent

  pub levelled-all : IsLevelled (h ++ u)
  levelled-all = record {
    known = λ a here. elim (has-or-lacks (entry_at h a)) [
      | inl has ↦ let e = ap generation_in (first-has h u a has) in let k = levelled.known a has in omega arith
      | inr none ↦ (upper a none here).known
    ];
    closed = λ a b parent. elim (has-or-lacks (entry_at h a)) [
      | inl has ↦ still b (levelled.closed a b (below a b has parent))
      | inr none ↦ (both (is_some (entry_at (h ++ u) b)) (nat_lt (generation_of (h ++ u) b) (generation_of (h ++ u) a)) (low-of a b none parent)).0
    ];
    fall = λ a b edge. elim (has-or-lacks (entry_at h a)) [
      | inl has ↦
          let parent = below a b has edge.0 in
          let there = levelled.closed a b parent in
          let less = levelled.fall a b (parent, there) in
          let e = ap generation_in (first-has h u a has) in
          let f = ap generation_in (first-has h u b there) in
          omega arith
      | inr none ↦
          let p = both (is_some (entry_at (h ++ u) b)) (nat_lt (generation_of (h ++ u) b) (generation_of (h ++ u) a)) (low-of a b none edge.0) in
          grind (arith, nat_tests, p.1)
    ];
  }
