use Rattle.std.proofs.Common.{refl}
use Rattle.gix_revwalk.proofs.Inserted.{graph-inserted, same-on-err}
use Rattle.gix_revwalk.proofs.graph.insert.Graph+S+Commit+D+A+A.insert.Goals as goal

pub invariant_of-self : goal.invariant_of-self
invariant_of-self g c =
    graph-inserted (g.S.Find.history c.self.inside.source) (g.S.Find.history c.insert.new.self) c.args.id (g.S.Insert.entry c.args.commit) c.insert.result c.insert.ensures.new c.insert.ensures.put
    (same-on-err g.S.Find.history c.insert.new.self c.self.inside.source c.insert.result c.insert.ensures.refused)
    c.self.inside.nodes.items c.self.inside.past c.self.inside.edges.items c.self.inside.turn c.self.invariant

pub returns-clause-new : goal.returns-clause-new
returns-clause-new g c = rw (← c.self.view_is) c.insert.ensures.new

pub returns-clause-put : goal.returns-clause-put
returns-clause-put g c = rw (← c.self.view_is) c.insert.ensures.put

pub returns-clause-cause : goal.returns-clause-cause
returns-clause-cause g c = rw (← c.self.view_is) c.insert.ensures.cause

pub returns-clause-count : goal.returns-clause-count
returns-clause-count g c = rw (← c.self.view_is) c.insert.ensures.count

pub returns-clause-held : goal.returns-clause-held
returns-clause-held g c = rw (← c.self.view_is) refl

pub returns-clause-marked : goal.returns-clause-marked
returns-clause-marked g c = rw (← c.self.view_is) refl
