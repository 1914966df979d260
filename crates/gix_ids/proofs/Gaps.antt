-- Where an id would be stored.
use Rattle.std.specs.Prelude.{Result, Ok, Err, MatchResult}
use Rattle.std.proofs.Common.{◌≡◌, ◌≢◌, ℕ, ◌<◌, ◌≤◌, inl, inr, List, slice_index, sym, ap, ◌∙◌, arith}
use Rattle.std.proofs.lemmas.Bool.{cases_lt}
use Rattle.std.specs.declared.cmp.Ordering.TheVariants.{Less, Equal}
use Rattle.gix_base.specs.declared.hash.ObjectId.{ObjectId}
use Rattle.gix_ids.specs.TableForm.{compare_ids, id_of, fan, fan_below, first_byte, IsSorted}
use Rattle.gix_ids.specs.TableLookup.{IsAt, IsAbsent, IsGap, IsIn, IsGapIn, RiseIn}
use Rattle.gix_ids.specs.declared.table.Table.{Table}
use Rattle.gix_ids.specs.declared.lookup.Span.{Span}
use Rattle.gix_ids.proofs.Order.{itself}
use Rattle.gix_ids.proofs.Fanned.{less-before, less-behind}

-- an id that would be stored between two others is stored nowhere
pub gap-absent : (s : List ℕ) (t : Table) (id : ObjectId) (k : ℕ) → IsGap s t id k → IsAbsent s t id
gap-absent s t id k gap j h is =
    elim (cases_lt j k) [
      | inl low ↦ let e : Less ≡ Equal = sym (gap.before j low) ∙ ap (λ x. compare_ids x id) is ∙ itself id in cc
      | inr high ↦ let e : Less ≡ Equal = sym (gap.behind j high h) ∙ ap (compare_ids id) is ∙ itself id in cc
    ]

-- nor in a span whose ids rise
pub gap-absent-in : (s : List ℕ) (t : Table) (span : Span) (id : ObjectId) (k : ℕ) → IsGapIn s t span id k → RiseIn s t span
    → (j : ℕ) → span.low ≤ j → j < span.high → id_of s t j ≢ id
gap-absent-in s t span id k gap rise j from h is =
    elim (cases_lt j k) [
      | inl low ↦ let e : Less ≡ Equal = sym (gap.before rise j from low) ∙ ap (λ x. compare_ids x id) is ∙ itself id in cc
      | inr high ↦ let e : Less ≡ Equal = sym (gap.behind rise j high h) ∙ ap (compare_ids id) is ∙ itself id in cc
    ]

module _ (s : List ℕ) (t : Table) (sorted : IsSorted s t) (id : ObjectId) (byte : slice_index id.0 0 < 256) (span : Span)
    (low : span.low ≡ fan_below s t (slice_index id.0 0)) (high : span.high ≡ fan s t (slice_index id.0 0)) where
  -- what is found in the fanout's span is found in the table
  pub at-fanned : (k : ℕ) → IsIn s t span id k → IsAt s t id k
  at-fanned k is =
      let most = (sorted.fans (slice_index id.0 0) byte).most in
      let here = is.below in
      record { below = omega (arith, most, here, high); same = is.same }

  rise-fanned : RiseIn s t span
  rise-fanned i from h = let most = (sorted.fans (slice_index id.0 0) byte).most in sorted.rises i (omega (arith, most, h, high))

  -- and a gap in that span is a gap in the table
  pub gap-fanned : ((j : ℕ) → j < t.count → first_byte s t j < 256) → (k : ℕ) → IsGapIn s t span id k → IsGap s t id k
  gap-fanned bytes k gap =
      let fans = sorted.fans (slice_index id.0 0) byte in
      let most = fans.most in
      let from = gap.from in
      let within = gap.within in
      record {
        within = omega (arith, most, within, high);
        before = λ j h. elim (cases_lt j span.low) [
          | inl out ↦
              let here : j < t.count = omega (arith, most, within, high, h) in
              less-before s t sorted id byte j here (bytes j here) (omega (arith, out, low))
          | inr in' ↦ gap.before rise-fanned j in' h
        ];
        behind = λ j h here. elim (cases_lt j span.high) [
          | inl in' ↦ gap.behind rise-fanned j h in'
          | inr out ↦ less-behind s t sorted id byte j here (omega (arith, out, high))
        ];
      }

  -- what a search of that span answers is so of the table
  pub place-fanned : ((j : ℕ) → j < t.count → first_byte s t j < 256) → (r : Result ℕ ℕ) → MatchResult r (IsIn s t span id) (IsGapIn s t span id) → MatchResult r (IsAt s t id) (IsGap s t id)
  place-fanned bytes (Ok k) is = at-fanned k is
  place-fanned bytes (Err k) gap = gap-fanned bytes k gap
