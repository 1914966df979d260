use Rattle.std.proofs.Common.{◌≡◌, take}
use Rattle.std.specs.List.{filter}
use Rattle.gix_c_core.specs.Behind.{joined}
use Rattle.gix_c_core.specs.Missing.{is_lacked}
use Rattle.gix_c_core.proofs.missing.lacked.Given as goal

abbrev pub invariant-loop-id : goal.invariant-loop-id
invariant-loop-id l = l.found.items ≡ filter (is_lacked (joined l.fn.source)) (take l.id-index l.fn.ids)
