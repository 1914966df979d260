use Rattle.std.proofs.Common.{subst}
use Rattle.gix_revwalk.specs.Held.{history_of}
use Rattle.gix_revwalk.specs.Stored.{AreRight}
use Rattle.gix_revwalk.proofs.graph.memory.MemorySource.is_levelled.Goals as goal

pub returns-in-NeverRise : goal.returns-in-NeverRise
returns-in-NeverRise g c _ = rw (← c.self.view_is) (subst (λ known. AreRight known (history_of c.self.inside.commits.entries)) c.in-NeverRise.is c.self.invariant.right)
