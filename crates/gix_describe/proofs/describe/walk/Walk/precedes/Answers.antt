use Rattle.gix_describe.specs.Outcomes.{names_of}
use Rattle.gix_describe.proofs.describe.walk.Walk.precedes.Goals as goal

pub returns-in-ById : goal.returns-in-ById
returns-in-ById g c = rw c.in-ById.is c.is_named_before.ensures

pub returns-in-ByMeeting : goal.returns-in-ByMeeting
returns-in-ByMeeting g c = rw c.in-ByMeeting.is (λ d. c.is_met_before.ensures (names_of c.args.names.now.entries) d)
