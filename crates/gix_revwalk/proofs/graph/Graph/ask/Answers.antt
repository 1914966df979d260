use Rattle.std.proofs.Common.{refl}
use Rattle.gix_revwalk.proofs.graph.Graph.ask.Goals as goal
use Rattle.gix_revwalk.proofs.graph.Graph.ask.Goals.{in-Ok, in-Err-Failed, in-Err-OutOfMemory}

pub returns-clause-count : goal.returns-clause-count
returns-clause-count g c =
    elim c.match-find.branch [
      | in-Ok w ↦ rw (w.result-is, ← c.self.view_is) w.in-Ok.ensures.count
      | in-Err-Failed w ↦ rw (w.result-is, ← c.self.view_is) (rw w.in-Err-Failed.field-0-is at w.in-Err-Failed.ensures.count)
      | in-Err-OutOfMemory w ↦ rw (w.result-is, ← c.self.view_is) (rw w.in-Err-OutOfMemory.field-0-is at w.in-Err-OutOfMemory.ensures.count)
    ]

pub returns-clause-held : goal.returns-clause-held
returns-clause-held g c = rw (← c.self.view_is) refl

pub returns-clause-marked : goal.returns-clause-marked
returns-clause-marked g c = rw (← c.self.view_is) refl

pub returns-clause-history : goal.returns-clause-history
returns-clause-history g c = rw (← c.self.view_is) c.find.ensures.same_history
