use Rattle.std.proofs.Common.{refl, inl}
use Rattle.gix_revwalk.proofs.Taken.{grows-same}
use Rattle.gix_revwalk.specs.Number.{place_in}
use Rattle.gix_revwalk.proofs.Growth.{named-back, grows-marks}
use Rattle.gix_revwalk.proofs.numbers.known_parents.Goals as goal

pub remember-requires-clause-row : goal.remember-requires-clause-row
remember-requires-clause-row g c id is =
    let row = c.in_default-take_parents.ensures.numbers id (named-back c.args.graph.now c.take_parents.new.graph c.in_default-take_parents.ensures.grows (place_in c.args.number) id c.requires is) in
    rw (c.deref.ensures.value, c.in_default-take_parents.ensures.history) row

pub returns-in-Err-take_parents-clause-marks : goal.returns-in-Err-take_parents-clause-marks
returns-in-Err-take_parents-clause-marks g c = grows-marks c.args.graph.now c.take_parents.new.graph c.in-Err-take_parents.ensures.grows c.row_of.ensures.ids

pub returns-clause-marks : goal.returns-clause-marks
returns-clause-marks g c = rw c.remember.ensures (grows-marks c.args.graph.now c.take_parents.new.graph c.in_default-take_parents.ensures.grows c.row_of.ensures.ids)

pub returns-in-Ok-clause-grows : goal.returns-in-Ok-clause-grows
returns-in-Ok-clause-grows g c = grows-same c.args.graph.now c.args.graph.now refl refl

pub returns-in-Ok-clause-marks : goal.returns-in-Ok-clause-marks
returns-in-Ok-clause-marks g c q = refl

pub returns-in-Ok-clause-more : goal.returns-in-Ok-clause-more
returns-in-Ok-clause-more g c id is q there = inl there

pub returns-in-Ok-clause-history : goal.returns-in-Ok-clause-history
returns-in-Ok-clause-history g c = refl

pub returns-in-Ok-clause-count : goal.returns-in-Ok-clause-count
returns-in-Ok-clause-count g c = refl

pub returns-in-Err-clause-grows : goal.returns-in-Err-clause-grows
returns-in-Err-clause-grows g c = grows-same c.args.graph.now c.args.graph.now refl refl

pub returns-in-Err-clause-marks : goal.returns-in-Err-clause-marks
returns-in-Err-clause-marks g c q = refl

pub returns-in-Err-clause-more : goal.returns-in-Err-clause-more
returns-in-Err-clause-more g c id is q there = inl there

pub returns-in-Err-clause-history : goal.returns-in-Err-clause-history
returns-in-Err-clause-history g c = refl

pub returns-in-Err-clause-count : goal.returns-in-Err-clause-count
returns-in-Err-clause-count g c = refl

pub returns-in-Err-take_parents-clause-grows : goal.returns-in-Err-take_parents-clause-grows
returns-in-Err-take_parents-clause-grows g c = c.in-Err-take_parents.ensures.grows

pub returns-clause-grows : goal.returns-clause-grows
returns-clause-grows g c = rw c.remember.ensures c.in_default-take_parents.ensures.grows

pub returns-in-Err-take_parents-clause-more : goal.returns-in-Err-take_parents-clause-more
returns-in-Err-take_parents-clause-more g c = c.in-Err-take_parents.ensures.more

pub returns-clause-more : goal.returns-clause-more
returns-clause-more g c = rw c.remember.ensures c.in_default-take_parents.ensures.more

pub returns-in-Err-take_parents-clause-history : goal.returns-in-Err-take_parents-clause-history
returns-in-Err-take_parents-clause-history g c = c.in-Err-take_parents.ensures.history

pub returns-clause-history : goal.returns-clause-history
returns-clause-history g c = rw c.remember.ensures c.in_default-take_parents.ensures.history

pub returns-in-Err-take_parents-clause-count : goal.returns-in-Err-take_parents-clause-count
returns-in-Err-take_parents-clause-count g c = c.in-Err-take_parents.ensures.count

pub returns-clause-count : goal.returns-clause-count
returns-clause-count g c = rw c.remember.ensures c.in_default-take_parents.ensures.count

pub returns-clause-numbers : goal.returns-clause-numbers
returns-clause-numbers g c id is = rw c.remember.ensures (c.in_default-take_parents.ensures.numbers id is)
