use Rattle.std.proofs.Common.{ℕ, ◌<◌}
use Rattle.std.specs.List.{slice_index_or}
use Rattle.gix_base.specs.declared.hash.ObjectId.{ObjectId}
use Rattle.gix_revwalk.specs.Stored.{IsUpTo}
use Rattle.gix_revwalk.proofs.graph.memory.MemorySource.are_up_to.Given as goal

abbrev pub invariant-loop-id : goal.invariant-loop-id
invariant-loop-id g l = (k : ℕ) (d : ObjectId) → k < l.id-index → IsUpTo l.self l.generation (slice_index_or l.ids k d)
