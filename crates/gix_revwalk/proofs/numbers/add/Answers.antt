use Rattle.gix_revwalk.proofs.numbers.add.Goals as goal

pub add_near-requires-clause-new : goal.add_near-requires-clause-new
add_near-requires-clause-new g c = c.requires.new

pub add_near-requires-clause-agrees : goal.add_near-requires-clause-agrees
add_near-requires-clause-agrees g c = c.requires.agrees

pub returns-in-Ok-clause-source : goal.returns-in-Ok-clause-source
returns-in-Ok-clause-source g c = c.add_near.ensures.source

pub returns-in-Err-clause-source : goal.returns-in-Err-clause-source
returns-in-Err-clause-source g c = c.add_near.ensures.source

pub returns-in-Ok-clause-held : goal.returns-in-Ok-clause-held
returns-in-Ok-clause-held g c = c.in-Ok.ensures.held

pub returns-in-Ok-clause-marked : goal.returns-in-Ok-clause-marked
returns-in-Ok-clause-marked g c = c.in-Ok.ensures.marked

pub returns-in-Ok-clause-unnoted : goal.returns-in-Ok-clause-unnoted
returns-in-Ok-clause-unnoted g c = c.in-Ok.ensures.unnoted

pub returns-in-Err-clause-refused : goal.returns-in-Err-clause-refused
returns-in-Err-clause-refused g c = c.in-Err.ensures.refused
