use Rattle.std.proofs.Common.{◌≡◌, ℕ, ◌-◌, ◌<◌, ◌≤◌}
use Rattle.std.specs.declared.cmp.Ordering.TheVariants.{Less}
use Rattle.gix_ids.specs.TableForm.{compare_ids, id_of}
use Rattle.gix_ids.specs.TableLookup.{RiseIn}
use Rattle.gix_ids.proofs.lookup.narrow.Given as goal

abbrev pub invariant-search : goal.invariant-search
invariant-search l = record {
  least : l.fn.span.low ≤ l.left.low;
  order : l.left.low ≤ l.left.high;
  most : l.left.high ≤ l.fn.span.high;
  before : RiseIn l.bytes l.t l.fn.span → (k : ℕ) → l.fn.span.low ≤ k → k < l.left.low → compare_ids (id_of l.bytes l.t k) l.id ≡ Less;
  behind : RiseIn l.bytes l.t l.fn.span → (k : ℕ) → l.left.high ≤ k → k < l.fn.span.high → compare_ids l.id (id_of l.bytes l.t k) ≡ Less;
}

abbrev pub decreases-search : goal.decreases-search
decreases-search l = l.left.high - l.left.low
