use Rattle.gix_revwalk.proofs.Stored.{noted-so}
use Rattle.gix_revwalk.proofs.graph.memory.MemorySource.noted.Goals as goal

pub returns-clause-so : goal.returns-clause-so
returns-clause-so g c = rw (← c.self.view_is) (noted-so _ _ c.self.invariant.right)

pub returns-clause-absent : goal.returns-clause-absent
returns-clause-absent g c = rw (← c.self.view_is) c.self.invariant.absent
