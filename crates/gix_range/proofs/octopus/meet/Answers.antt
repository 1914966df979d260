use Rattle.gix_range.proofs.Meeting.{meets_more}
use Rattle.gix_range.proofs.octopus.meet.Goals as goal

pub returns-clause-meets : goal.returns-clause-meets
returns-clause-meets g c all ids acyclic other_in at =
    meets_more (g.S.Find.history c.args.graph.now.source) all ids c.args.common.now.items c.in_ok-found.found.items c.args.other other_in acyclic at (rw c.as_slice.ensures.value at c.in_ok-found.ensures.exact)
