use Rattle.gix_commitgraph.proofs.Falling.{fall-acyclic, fall-never_rise}
use Rattle.gix_history.proofs.Beyonds.{acyclic-on, ordered-on}
use Rattle.gix_history.proofs.loaded.Loaded.premises.Goals as goal

pub returns-clause-acyclic : goal.returns-clause-acyclic
returns-clause-acyclic g c = rw (← c.self.view_is) (λ ids a b _ edge. fall-acyclic _ c.self.invariant.levelled.fall a b edge)

pub returns-clause-ordered : goal.returns-clause-ordered
returns-clause-ordered g c = rw (← c.self.view_is) (λ ids a b _ edge. fall-never_rise _ c.self.invariant.levelled.fall a b edge)

pub returns-clause-acyclic_on : goal.returns-clause-acyclic_on
returns-clause-acyclic_on g c = rw (← c.self.view_is) (λ beyond ids all. acyclic-on _ beyond c.self.invariant.levelled ids all)

pub returns-clause-ordered_on : goal.returns-clause-ordered_on
returns-clause-ordered_on g c = rw (← c.self.view_is) (λ beyond ids all. ordered-on _ beyond c.self.invariant.levelled ids all)

pub returns-clause-closed : goal.returns-clause-closed
returns-clause-closed g c = rw (← c.self.view_is) c.self.invariant.levelled.closed

pub returns-clause-authentic : goal.returns-clause-authentic
returns-clause-authentic g c = rw (← c.self.view_is) c.self.invariant.authentic
