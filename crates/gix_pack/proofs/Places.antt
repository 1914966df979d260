-- What a search finds in a part of an index.
use Rattle.std.specs.Prelude.{Result, Ok, Err, MatchResult}
use Rattle.std.proofs.Common.{◌≡◌, ℕ, List, arith}
use Rattle.gix_base.specs.declared.hash.ObjectId.{ObjectId}
use Rattle.gix_ids.specs.TableLookup.{IsAt, IsGap, IsIn, IsGapIn}
use Rattle.gix_ids.specs.declared.lookup.Span.{Span}
use Rattle.gix_pack.specs.PartForm.{part_of, AreRising}

-- what a search of all positions answers is so of the part
pub place-in-part : (s : List ℕ) (id : ObjectId) (span : Span) → span.low ≡ 0 → span.high ≡ (part_of s).count → (r : Result ℕ ℕ)
    → MatchResult r (IsIn s (part_of s) span id) (IsGapIn s (part_of s) span id)
    → MatchResult r (IsAt s (part_of s) id) (λ k. AreRising s → IsGap s (part_of s) id k)
place-in-part s id span low high (Ok k) is = let below = is.below in record { below = omega (arith, below, high); same = is.same }
place-in-part s id span low high (Err k) gap = λ rise.
    let within = gap.within in
    record {
      within = omega (arith, within, high);
      before = λ j h. gap.before (λ i from below. rise i (omega (arith, below, high))) j (omega (arith, low)) h;
      behind = λ j h here. gap.behind (λ i from below. rise i (omega (arith, below, high))) j h (omega (arith, here, high));
    }
