-- What the fanout says of an id.
use Rattle.std.proofs.Common.{◌≡◌, ℕ, zero, suc, ◌+◌, ◌-◌, ◌*◌, ◌<◌, ◌≤◌, inl, inr, nat_eq, false, List, [], ◌∷◌, slice_index, get_or, drop, refl, sym, ap, ◌∙◌, subst, arith, lit<}
use Rattle.std.proofs.lemmas.Bool.{cases_lt}
use Rattle.std.proofs.lemmas.List.{get_or-take, get_or-drop}
use Rattle.std.proofs.lemmas.Bool.Decides.{nat_tests}
use Rattle.std.specs.Cmp.{nat_cmp_is}
use Rattle.std.specs.Cmp.Lexicographic.{slice_cmp, texts_ties}
use Rattle.std.specs.Ordering.{is_eq, nat_cmp, ordering_then}
use Rattle.std.specs.declared.cmp.Ordering.TheVariants.{Less, Equal}
use Rattle.gix_base.specs.declared.hash.ObjectId.{ObjectId}
use Rattle.gix_revwalk.proofs.Ids.{same_id-true}
use Rattle.gix_ids.specs.TableBytes.{id_from}
use Rattle.gix_ids.specs.TableForm.{compare_ids, id_of, fan, fan_below, first_byte, IsSorted}
use Rattle.gix_ids.specs.declared.table.Table.{Table}

-- ids that compare as equal are equal
pub tied : (a b : ObjectId) → compare_ids a b ≡ Equal → a ≡ b
tied a b e = same_id-true a b (texts_ties a.0 b.0 ∙ ap is_eq e)

-- the number before the next one
pub fan-before : (s : List ℕ) (t : Table) (b : ℕ) → fan s t b ≡ fan_below s t (b + 1)
fan-before s t b =
    let e : nat_eq (b + 1) 0 ≡ false = grind (arith, nat_tests) in
    let d : b + 1 - 1 ≡ b = omega arith in
    rw (e, d) refl

-- the first byte of an id is the byte where it begins
pub first-of : (s : List ℕ) (at : ℕ) → slice_index (id_from s at).0 0 ≡ slice_index s at
unfolding id_from
first-of s at =
    let e : at + 0 ≡ at = omega arith in
    get_or-take 20 (drop at s) 0 0 (lit< tt) ∙ get_or-drop at s 0 0 ∙ ap (λ n. get_or s n 0) e

-- a list whose first number is less is less
less-first : (xs ys : List ℕ) → slice_index xs 0 < slice_index ys 0 → slice_cmp nat_cmp xs ys ≡ Less
less-first [] [] h = absurd (omega arith)
less-first [] (y ∷ ys) h = refl
less-first (x ∷ xs) [] h = absurd (omega arith)
less-first (x ∷ xs) (y ∷ ys) h = ap (λ o. ordering_then o (slice_cmp nat_cmp xs ys)) (sym (nat_cmp_is x y Less h))

module _ (s : List ℕ) (t : Table) (sorted : IsSorted s t) where
  -- the fanout does not fall over any distance
  fan-rises : (b n : ℕ) → b + n < 257 → fan_below s t b ≤ fan_below s t (b + n)
  fan-rises b zero h = let P : ℕ → Type 0 = λ k. fan_below s t b ≤ fan_below s t k in let e : b ≡ b + 0 = omega arith in subst P e (omega arith)
  fan-rises b (suc n) h =
      let P : ℕ → Type 0 = λ k. fan_below s t b ≤ fan_below s t k in
      let more = fan-rises b n (omega arith) in
      let step = (sorted.fans (b + n) (omega arith)).rises in
      let next = fan-before s t (b + n) in
      let e : b + n + 1 ≡ b + suc n = omega arith in
      subst P e (omega arith)

  fan-up : (a b : ℕ) → a ≤ b → b < 257 → fan_below s t a ≤ fan_below s t b
  fan-up a b h small =
      let P : ℕ → Type 0 = λ k. fan_below s t a ≤ fan_below s t k in
      let e : a + (b - a) ≡ b = omega arith in
      subst P e (fan-rises a (b - a) (omega arith))

  module _ (id : ObjectId) (byte : slice_index id.0 0 < 256) (k : ℕ) (within : k < t.count) where
    first : slice_index (id_of s t k).0 0 ≡ first_byte s t k
    first = first-of s (t.ids + 20 * k)

    -- an id before those of a first byte is less than any of these
    pub less-before : first_byte s t k < 256 → k < fan_below s t (slice_index id.0 0) → compare_ids (id_of s t k) id ≡ Less
    less-before fits h =
        elim (cases_lt (first_byte s t k) (slice_index id.0 0)) [
          | inl low ↦ less-first (id_of s t k).0 id.0 (let e = first in omega arith)
          | inr high ↦
              let up = fan-up (slice_index id.0 0) (first_byte s t k) high (omega arith) in
              let at = (sorted.fanned k within).above in
              absurd (omega arith)
        ]

    -- and one behind them is greater
    pub less-behind : fan s t (slice_index id.0 0) ≤ k → compare_ids id (id_of s t k) ≡ Less
    less-behind h =
        elim (cases_lt (slice_index id.0 0) (first_byte s t k)) [
          | inl low ↦ less-first id.0 (id_of s t k).0 (let e = first in omega arith)
          | inr high ↦
              let up = fan-up (first_byte s t k + 1) (slice_index id.0 0 + 1) (omega arith) (omega arith) in
              let of-id = fan-before s t (slice_index id.0 0) in
              let of-k = fan-before s t (first_byte s t k) in
              let at = (sorted.fanned k within).below in
              absurd (omega arith)
        ]
