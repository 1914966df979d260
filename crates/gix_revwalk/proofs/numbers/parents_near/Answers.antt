use Rattle.std.proofs.Common.{refl}
use Rattle.gix_revwalk.specs.Pasts.{told_in}
use Rattle.gix_revwalk.proofs.NodeSteps.{told-parents}
use Rattle.gix_revwalk.proofs.numbers.parents_near.Goals as goal

pub invariant_of-graph : goal.invariant_of-graph
invariant_of-graph g c = rw c.parents_of.ensures.same c.graph.invariant

pub invariant_of-graph-in-Ok-false : goal.invariant_of-graph-in-Ok-false
invariant_of-graph-in-Ok-false g c = rw c.parents_of.ensures.same c.graph.invariant

pub invariant_of-graph-in-Err : goal.invariant_of-graph-in-Err
invariant_of-graph-in-Err g c = rw c.parents_of.ensures.same c.graph.invariant

pub returns-in-Ok-true-clause-held : goal.returns-in-Ok-true-clause-held
returns-in-Ok-true-clause-held g c = rw (← c.graph.view_is) refl

pub returns-in-Ok-true-clause-marked : goal.returns-in-Ok-true-clause-marked
returns-in-Ok-true-clause-marked g c = rw (← c.graph.view_is) refl

pub returns-in-Ok-true-clause-history : goal.returns-in-Ok-true-clause-history
returns-in-Ok-true-clause-history g c = rw (← c.graph.view_is) refl

pub returns-in-Ok-true-clause-count : goal.returns-in-Ok-true-clause-count
returns-in-Ok-true-clause-count g c = rw (← c.graph.view_is) refl

pub returns-in-Err-clause-held : goal.returns-in-Err-clause-held
returns-in-Err-clause-held g c = rw (← c.graph.view_is) refl

pub returns-in-Err-clause-marked : goal.returns-in-Err-clause-marked
returns-in-Err-clause-marked g c = rw (← c.graph.view_is) refl

pub returns-in-Err-clause-history : goal.returns-in-Err-clause-history
returns-in-Err-clause-history g c = rw (← c.graph.view_is) refl

pub returns-in-Err-clause-count : goal.returns-in-Err-clause-count
returns-in-Err-clause-count g c = rw (← c.graph.view_is) refl

pub returns-in-Ok-false-clause-held : goal.returns-in-Ok-false-clause-held
returns-in-Ok-false-clause-held g c = rw (← c.graph.view_is) c.ask_parents.ensures.held

pub returns-in-Ok-false-clause-marked : goal.returns-in-Ok-false-clause-marked
returns-in-Ok-false-clause-marked g c = rw (← c.graph.view_is) c.ask_parents.ensures.marked

pub returns-in-Ok-false-clause-history : goal.returns-in-Ok-false-clause-history
returns-in-Ok-false-clause-history g c = rw (← c.graph.view_is) c.ask_parents.ensures.history

pub returns-in-Ok-false-clause-count : goal.returns-in-Ok-false-clause-count
returns-in-Ok-false-clause-count g c = rw (← c.graph.view_is) c.ask_parents.ensures.count

pub returns-in-Ok-false-clause-parents : goal.returns-in-Ok-false-clause-parents
returns-in-Ok-false-clause-parents g c = rw (← c.graph.view_is) c.ask_parents.ensures.parents

pub returns-in-Ok-true-clause-parents : goal.returns-in-Ok-true-clause-parents
returns-in-Ok-true-clause-parents g c =
    rw (← c.graph.view_is) (told-parents _ c.args.id.now (told_in c.graph.inside.past c.args.id.now) _ (rw c.in-Ok-true.field-0-test at c.in-Ok-true.ensures.told) c.in-Ok-true.ensures.parents (c.graph.invariant.1.told c.args.id.now))
