use Rattle.std.proofs.Common.{◌≡◌, ℕ, ◌<◌}
use Rattle.gix_ids.specs.TableForm.{Fans, fan_below}
use Rattle.gix_ids.proofs.table.check_fanout.Given as goal

abbrev pub invariant-loop-b : goal.invariant-loop-b
invariant-loop-b l = record {
  last : l.last ≡ fan_below l.bytes l.t l.b;
  fans : (b : ℕ) → b < l.b → Fans l.bytes l.t b;
}
