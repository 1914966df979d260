use Rattle.std.proofs.Common.{◌≡◌, drop}
use Rattle.gix_ref_text.specs.Names.{has_pair}
use Rattle.gix_ref_text.proofs.name.has_pair.Given as goal

abbrev pub invariant-loop-byte : goal.invariant-loop-byte
invariant-loop-byte l = has_pair l.first l.second 0 l.name ≡ has_pair l.first l.second l.last (drop l.byte-index l.name)
