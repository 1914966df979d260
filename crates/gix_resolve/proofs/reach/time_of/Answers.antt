use Rattle.gix_revwalk.specs.Number.{place_in}
use Rattle.gix_revwalk.proofs.Growth.{more-taken}
use Rattle.gix_merge_base.proofs.QueueKeys.{number-id}
use Rattle.gix_resolve.proofs.reach.time_of.Goals as goal

pub value-requires : goal.value-requires
value-requires g c = (number-id c.take.new.graph c.args.id (place_in c.in-Some.number) (rw c.in-Some.is at c.in_ok-number.ensures.number)).0

pub returns-clause-taken : goal.returns-clause-taken
returns-clause-taken g c = more-taken (g.S.Find.history c.args.graph.now.source) c.args.graph.now c.take.new.graph c.args.id _ c.in_ok-number.ensures.taken
