use Rattle.gix_authentic.proofs.Holds.{ranges, lists, counts}
use Rattle.gix_authentic.proofs.ranges_are_determined.Goals as goal

pub returns-clause-all : goal.returns-clause-all
returns-clause-all c = ranges

pub returns-clause-list : goal.returns-clause-list
returns-clause-list c = lists

pub returns-clause-count : goal.returns-clause-count
returns-clause-count c = counts
