use Rattle.std.proofs.Common.{◌≡◌, ◌⊎◌, length, true, IsTrue}
use Rattle.gix_base.specs.declared.hash.ObjectId.{ObjectId}
use Rattle.gix_revwalk.specs.History.{is_one_of}
use Rattle.gix_describe.specs.Outcomes.{names_of}
use Rattle.gix_describe.specs.Sieve.{bit_in}
use Rattle.gix_describe.specs.Trace.{is_named}
use Rattle.gix_describe.proofs.describe.sieve.Sieve.of_few.Given as goal

abbrev pub invariant-loop-id : goal.invariant-loop-id
invariant-loop-id g l = (c : ObjectId) → IsTrue (is_named (names_of l.names.entries) c) → (bit_in l.sieve.words c ≡ 1) ⊎ (is_one_of l.ids c ≡ true)

abbrev pub decreases-loop-id : goal.decreases-loop-id
decreases-loop-id g l = length l.ids
