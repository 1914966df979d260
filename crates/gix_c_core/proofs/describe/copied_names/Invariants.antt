use Rattle.std.proofs.Common.{◌≡◌, take}
use Rattle.gix_base.specs.declared.hash.ObjectId.{ObjectId}
use Rattle.gix_describe.specs.Described.{name_at}
use Rattle.gix_describe.specs.Outcomes.{names_of}
use Rattle.gix_c_core.specs.Descriptions.{names_given}
use Rattle.gix_c_core.proofs.describe.copied_names.Given as goal

abbrev pub invariant-loop-name : goal.invariant-loop-name
invariant-loop-name l = (q : ObjectId) → name_at (names_of l.map.entries) q ≡ name_at (names_given (take l.name-index l.fn.names)) q
