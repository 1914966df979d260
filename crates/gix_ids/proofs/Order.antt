-- Ids that rise.
use Rattle.std.proofs.Common.{◌≡◌, ℕ, zero, suc, ◌+◌, ◌-◌, ◌<◌, ◌≤◌, inl, inr, List, sym, ap, ◌∙◌, subst, arith}
use Rattle.std.specs.Cmp.Lexicographic.{nat_list_cmp_total}
use Rattle.std.specs.Ordering.{ordering_reverse}
use Rattle.std.specs.declared.cmp.Ordering.TheVariants.{Less, Equal, Greater}
use Rattle.std.proofs.lemmas.Bool.{cases_order}
use Rattle.std.proofs.lemmas.Cmp.{tied_itself}
use Rattle.gix_base.specs.declared.hash.ObjectId.{ObjectId}
use Rattle.gix_ids.specs.TableForm.{compare_ids, id_of, Rises}
use Rattle.gix_ids.specs.TableLookup.{RiseIn}
use Rattle.gix_ids.specs.declared.table.Table.{Table}
use Rattle.gix_ids.specs.declared.lookup.Span.{Span}

pub itself : (a : ObjectId) → compare_ids a a ≡ Equal
itself a = tied_itself nat_list_cmp_total a.0

trans : (a b c : ObjectId) → compare_ids a b ≡ Less → compare_ids b c ≡ Less → compare_ids a c ≡ Less
trans a b c = nat_list_cmp_total.trans a.0 b.0 c.0

turned : (a b : ObjectId) → compare_ids a b ≡ Greater → compare_ids b a ≡ Less
turned a b e = nat_list_cmp_total.antisymm b.0 a.0 ∙ ap ordering_reverse e

module _ (s : List ℕ) (t : Table) (span : Span) (rises : RiseIn s t span) where
  far : (i d : ℕ) → span.low ≤ i → i + 1 + d < span.high → compare_ids (id_of s t i) (id_of s t (i + 1 + d)) ≡ Less
  far i zero from h =
      let e : i + 1 ≡ i + 1 + 0 = omega arith in
      let P : ℕ → Type 0 = λ n. compare_ids (id_of s t i) (id_of s t n) ≡ Less in
      subst P e (rises i from (omega arith))
  far i (suc d) from h =
      let e : i + 1 + d + 1 ≡ i + 1 + suc d = omega arith in
      let P : ℕ → Type 0 = λ n. compare_ids (id_of s t i) (id_of s t n) ≡ Less in
      subst P e (trans (id_of s t i) (id_of s t (i + 1 + d)) (id_of s t (i + 1 + d + 1)) (far i d from (omega arith)) (rises (i + 1 + d) (omega arith) (omega arith)))

  -- an id further on is greater
  pub less : (i j : ℕ) → span.low ≤ i → i < j → j < span.high → compare_ids (id_of s t i) (id_of s t j) ≡ Less
  less i j from h b =
      let e : i + 1 + (j - (i + 1)) ≡ j = omega arith in
      let P : ℕ → Type 0 = λ n. compare_ids (id_of s t i) (id_of s t n) ≡ Less in
      subst P e (far i (j - (i + 1)) from (omega arith))

  -- if the id at m is less than x, those before it are, too
  pub all-less : (m : ℕ) (x : ObjectId) → m < span.high → compare_ids (id_of s t m) x ≡ Less → (k : ℕ) → span.low ≤ k → k < m + 1 → compare_ids (id_of s t k) x ≡ Less
  all-less m x hm e k from h =
      elim (cases_order k m) [
        | inl same ↦ ap (λ j. compare_ids (id_of s t j) x) same ∙ e
        | inr (inl low) ↦ trans (id_of s t k) (id_of s t m) x (less k m from low hm) e
        | inr (inr high) ↦ absurd (omega arith)
      ]

  -- if the id at m is greater than x, those after it are, too
  pub all-greater : (m : ℕ) (x : ObjectId) → span.low ≤ m → compare_ids (id_of s t m) x ≡ Greater → (k : ℕ) → m ≤ k → k < span.high → compare_ids x (id_of s t k) ≡ Less
  all-greater m x from e k h hk =
      let first : compare_ids x (id_of s t m) ≡ Less = turned (id_of s t m) x e in
      elim (cases_order m k) [
        | inl same ↦ ap (λ j. compare_ids x (id_of s t j)) (sym same) ∙ first
        | inr (inl low) ↦ trans x (id_of s t m) (id_of s t k) first (less m k from low hk)
        | inr (inr high) ↦ absurd (omega arith)
      ]

module _ (s : List ℕ) (t : Table) (rises : (i : ℕ) → i + 1 < t.count → Rises s t i) where
  -- all positions of the table
  abbrev whole : Span
  whole = record { low = 0; high = t.count }

  pub less-all : (i j : ℕ) → i < j → j < t.count → compare_ids (id_of s t i) (id_of s t j) ≡ Less
  less-all i j h b = less s t whole (λ k from below. rises k below) i j (omega arith) h b

  -- no id is stored twice
  pub alone : (i j : ℕ) → i < t.count → j < t.count → id_of s t i ≡ id_of s t j → i ≡ j
  alone i j hi hj is =
      elim (cases_order i j) [
        | inl same ↦ same
        | inr (inl h) ↦ absurd (let c : Less ≡ Equal = sym (less-all i j h hj) ∙ ap (compare_ids (id_of s t i)) (sym is) ∙ itself (id_of s t i) in cc)
        | inr (inr h) ↦ absurd (let c : Less ≡ Equal = sym (less-all j i h hi) ∙ ap (compare_ids (id_of s t j)) is ∙ itself (id_of s t j) in cc)
      ]
