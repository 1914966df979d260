-- Which of the ids that are reduced were not met, and in which order they are looked at.
use Rattle.std.proofs.Common.{◌≡◌, ℕ, zero, suc, true, false, refl, ap, sym, subst, ◌∙◌, List, [], ◌∷◌, inl, inr, not, ◌<◌, ◌≤◌, IsTrue, arith, length, get_or, map}
use Rattle.std.proofs.lemmas.List.{length-map, get_or-map}
use Rattle.std.proofs.lemmas.List.Elements.{All-get_or, All-from_get_or, All-map, All-weaker, All-from_recursion, recursion_from_All}
use Rattle.std.proofs.lemmas.List.Sums.{sum_by-cons}
use Rattle.gix_base.specs.declared.hash.ObjectId.{ObjectId}
use Rattle.gix_revwalk.specs.History.{History, is_one_of, generation_of}
use Rattle.gix_revwalk.specs.Graph.{Graphed, held_len}
use Rattle.gix_revwalk.specs.Number.{place_in}
use Rattle.gix_revwalk.specs.declared.numbers.Number.{Number}
use Rattle.gix_revwalk.proofs.Members.{one_of-cons_cases}
use Rattle.gix_merge_base.specs.Counting.{unstale}
use Rattle.gix_merge_base.specs.Marks.{MarkSet, HasMarksOf, level}
use Rattle.gix_merge_base.specs.PaintQueue.{id_at, ids_at, queued_ids, AreIn}
use Rattle.gix_merge_base.specs.ReduceSteps.{Alike, IsRanked, IsOrder, AreMetBefore, IsLeft}
use Rattle.gix_merge_base.proofs.Octopus.{le_cases}
use Rattle.gix_merge_base.proofs.PaintWalk.{all_stale}

-- one that is not stale is alike to all
pub unstale_alike : (m : ObjectId → MarkSet) (xs : List ObjectId) → unstale m xs ≤ 1 → Alike xs m
unstale_alike m [] few a b a_in a_out b_in b_out = cc
unstale_alike m (x ∷ xs) few a b a_in a_out b_in b_out =
    let c = sum_by-cons (λ y. level (not (m y).stale)) x xs in
    elim (m x).stale as (λ s. (m x).stale ≡ s → a ≡ b) [
      | true ↦ λ e.
          let l : level (not (m x).stale) ≡ 0 = ap (λ z. level (not z)) e in
          let behind : (r : ObjectId) → IsTrue (is_one_of (x ∷ xs) r) → (m r).stale ≡ false → IsTrue (is_one_of xs r) =
          λ r r_in out. elim (one_of-cons_cases x xs r r_in) as (λ _. IsTrue (is_one_of xs r)) [
            | inl is ↦ let met : (m r).stale ≡ true = subst (λ z. (m z).stale ≡ true) (sym is) e in cc
            | inr k ↦ k
          ] in
          unstale_alike m xs (omega arith) a b (behind a a_in a_out) a_out (behind b b_in b_out) b_out
      | false ↦ λ e.
          let l : level (not (m x).stale) ≡ 1 = ap (λ z. level (not z)) e in
          let none : unstale m xs ≡ 0 = omega arith in
          let first : (r : ObjectId) → IsTrue (is_one_of (x ∷ xs) r) → (m r).stale ≡ false → r ≡ x =
          λ r r_in out. elim (one_of-cons_cases x xs r r_in) as (λ _. r ≡ x) [
            | inl is ↦ is
            | inr k ↦ let met = all_stale m xs none r k in cc
          ] in
          first a a_in a_out ∙ sym (first b b_in b_out)
    ] refl

-- more was met since
pub met_since : (m m' : ObjectId → MarkSet) (ids : List ObjectId) (place : ℕ) → ((c : ObjectId) → HasMarksOf (m c) (m' c)) → AreMetBefore m ids place → AreMetBefore m' ids place
met_since m m' ids place more before k d low high = (more _).stale (before k d low high)

-- the place of a member
place_of_one : (xs : List ObjectId) (r d : ObjectId) → IsTrue (is_one_of xs r) → (j : ℕ) × (j < length xs) × (r ≡ get_or xs j d)
place_of_one [] r d k = cc
place_of_one (x ∷ xs) r d k = elim (one_of-cons_cases x xs r k) as (λ _. (j : ℕ) × (j < length (x ∷ xs)) × (r ≡ get_or (x ∷ xs) j d)) [
  | inl is ↦ (zero, omega arith, is)
  | inr rest ↦ let p = place_of_one xs r d rest in let lt = p.1 in (suc p.0, omega arith, p.2)
]

-- the order of the ids
module _ {S T : Type 0} (h : History) (g : Graphed S T) (ps : List (ℕ × Number)) (order : IsOrder h g ps) where
  pub entry_held : (k : ℕ) (d : ℕ × Number) → k < length ps → place_in (get_or ps k d).1 < held_len g
  entry_held k d lt = (All-get_or (IsRanked h g) ps k d lt order.ranked).0

  pub entry_id : (k : ℕ) (d : ℕ × Number) (e : ObjectId) → k < length ps → get_or (queued_ids g ps) k e ≡ id_at g (place_in (get_or ps k d).1)
  entry_id k d e lt = get_or-map (λ p. id_at g (place_in p.1)) ps k d e lt

  -- the first that was not met stands at the place or behind it
  pub left_at : (m : ObjectId → MarkSet) (place bound : ℕ) → AreMetBefore m (queued_ids g ps) place
      → ((k : ℕ) → place ≤ k → k < length ps → bound ≤ (get_or ps k (0, record { 0 = 0 })).0) → IsLeft h m (queued_ids g ps) place bound
  left_at m place bound before above = record {
    before = before;
    least = λ r r_in out.
        let at = place_of_one (queued_ids g ps) r r r_in in
        let in_ids = at.1 in
        let len = length-map ps (λ p. id_at g (place_in p.1)) in
        let within : at.0 < length ps = omega arith in
        let d : ℕ × Number = (0, record { 0 = 0 }) in
        elim (le_cases at.0 place) as (λ _. bound ≤ generation_of h r) [
          | inl early ↦ let met : IsTrue (m r).stale = subst (λ z. IsTrue (m z).stale) (sym at.2) (before at.0 r (omega arith) early) in cc
          | inr late ↦
              let has = (All-get_or (IsRanked h g) ps at.0 d within order.ranked).1 in
              let up = above at.0 late within in
              let same : generation_of h r ≡ generation_of h (id_at g (place_in (get_or ps at.0 d).1)) = ap (generation_of h) (at.2 ∙ entry_id at.0 d r within) in
              omega arith
        ];
  }

  -- the numbers alone
  pub numbers_held : AreIn g (map (λ p. p.1) ps)
  numbers_held = recursion_from_All (λ x. place_in x < held_len g) (map (λ p. p.1) ps) (All-map (λ x. place_in x < held_len g) (λ p. p.1) ps (All-weaker (IsRanked h g) (λ p. place_in p.1 < held_len g) (λ p is. is.0) ps order.ranked))

pub numbers_ids : {S T : Type 0} (g : Graphed S T) (ps : List (ℕ × Number)) → ids_at g (map (λ p. p.1) ps) ≡ queued_ids g ps
numbers_ids g [] = refl
numbers_ids g (p ∷ ps) = ap (λ l. id_at g (place_in p.1) ∷ l) (numbers_ids g ps)

-- the graph has grown
pub order_grown : {S T : Type 0} (h : History) (m n : Graphed S T) (ps : List (ℕ × Number)) → IsOrder h m ps → AreIn n (map (λ p. p.1) ps) → queued_ids n ps ≡ queued_ids m ps → IsOrder h n ps
order_grown h m n ps old inside same = record {
  ranked = All-from_get_or (IsRanked h n) ps (0, record { 0 = 0 }) (λ k lt.
      let d : ℕ × Number = (0, record { 0 = 0 }) in
      let was = All-get_or (IsRanked h m) ps k d lt old.ranked in
      let len = length-map ps (λ p. p.1) in
      let held = All-get_or (λ x. place_in x < held_len n) (map (λ p. p.1) ps) k d.1 (omega arith) (All-from_recursion (λ x. place_in x < held_len n) (map (λ p. p.1) ps) inside) in
      let e : ObjectId = id_at n 0 in
      let id : id_at m (place_in (get_or ps k d).1) ≡ id_at n (place_in (get_or ps k d).1) =
      sym (get_or-map (λ p. id_at m (place_in p.1)) ps k d e lt) ∙ ap (λ l. get_or l k e) (sym same) ∙ get_or-map (λ p. id_at n (place_in p.1)) ps k d e lt in
      (subst (λ x. place_in x < held_len n) (get_or-map (λ p. p.1) ps k d d.1 lt) held, was.1 ∙ ap (generation_of h) id));
  rising = old.rising;
}
