use Rattle.gix_resolve.proofs.Answered.{not_so}
use Rattle.gix_resolve.proofs.list.early.known_count.Goals as goal

pub returns-in-Range-clause-exclude : goal.returns-in-Range-clause-exclude
returns-in-Range-clause-exclude g c = λ is. not_so (rw c.in-Range.is at is)

pub returns-in-Merge-clause-exclude : goal.returns-in-Merge-clause-exclude
returns-in-Merge-clause-exclude g c = λ is. not_so (rw c.in-Merge.is at is)

pub returns-in-Range-clause-size : goal.returns-in-Range-clause-size
returns-in-Range-clause-size g c = rw c.in-Range.is c.known_between.ensures.size

pub returns-in-Range-clause-taken : goal.returns-in-Range-clause-taken
returns-in-Range-clause-taken g c = rw c.in-Range.is c.known_between.ensures.taken

pub returns-in-Merge-clause-size : goal.returns-in-Merge-clause-size
returns-in-Merge-clause-size g c = rw c.in-Merge.is c.known_of_just_one.ensures.size

pub returns-in-Merge-clause-taken : goal.returns-in-Merge-clause-taken
returns-in-Merge-clause-taken g c = rw c.in-Merge.is c.known_of_just_one.ensures.taken

pub returns-in-Range-clause-after : goal.returns-in-Range-clause-after
returns-in-Range-clause-after g c = c.known_between.ensures.after

pub returns-in-Merge-clause-after : goal.returns-in-Merge-clause-after
returns-in-Merge-clause-after g c = c.known_of_just_one.ensures.after
