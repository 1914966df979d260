use Rattle.std.proofs.Common.{◌≡◌, drop}
use Rattle.std.specs.List.{list_all}
use Rattle.gix_ref_text.specs.Changes.{is_zero}
use Rattle.gix_ref_text.proofs.log.is_null.Given as goal

abbrev pub invariant-loop-byte : goal.invariant-loop-byte
invariant-loop-byte l = list_all is_zero l.id.0 ≡ list_all is_zero (drop l.byte-index l.id.0)
