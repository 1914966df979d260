use Rattle.std.proofs.Common.{◌∙◌, ap}
use Rattle.gix_revwalk.specs.History.{parents_in}
use Rattle.gix_revwalk.proofs.numbers.ask_parents.Goals as goal

pub copy_parents-requires : goal.copy_parents-requires
copy_parents-requires g c = c.requires

pub returns-in-Ok-clause-held : goal.returns-in-Ok-clause-held
returns-in-Ok-clause-held g c = c.ask.ensures.held

pub returns-in-Ok-clause-marked : goal.returns-in-Ok-clause-marked
returns-in-Ok-clause-marked g c = c.ask.ensures.marked

pub returns-in-Ok-clause-history : goal.returns-in-Ok-clause-history
returns-in-Ok-clause-history g c = c.ask.ensures.history

pub returns-in-Ok-clause-count : goal.returns-in-Ok-clause-count
returns-in-Ok-clause-count g c = c.in-Ok-Some.ensures.count

pub returns-in-Ok-Some-clause-held : goal.returns-in-Ok-Some-clause-held
returns-in-Ok-Some-clause-held g c = c.ask.ensures.held

pub returns-in-Ok-Some-clause-marked : goal.returns-in-Ok-Some-clause-marked
returns-in-Ok-Some-clause-marked g c = c.ask.ensures.marked

pub returns-in-Ok-Some-clause-history : goal.returns-in-Ok-Some-clause-history
returns-in-Ok-Some-clause-history g c = c.ask.ensures.history

pub returns-in-Ok-Some-clause-count : goal.returns-in-Ok-Some-clause-count
returns-in-Ok-Some-clause-count g c = c.in-Ok-Some.ensures.count

pub returns-in-Ok-None-clause-held : goal.returns-in-Ok-None-clause-held
returns-in-Ok-None-clause-held g c = c.ask.ensures.held

pub returns-in-Ok-None-clause-marked : goal.returns-in-Ok-None-clause-marked
returns-in-Ok-None-clause-marked g c = c.ask.ensures.marked

pub returns-in-Ok-None-clause-history : goal.returns-in-Ok-None-clause-history
returns-in-Ok-None-clause-history g c = c.ask.ensures.history

pub returns-in-Ok-None-clause-count : goal.returns-in-Ok-None-clause-count
returns-in-Ok-None-clause-count g c = c.in-Ok-None.ensures.count

pub returns-clause-held : goal.returns-clause-held
returns-clause-held g c = c.ask.ensures.held

pub returns-clause-marked : goal.returns-clause-marked
returns-clause-marked g c = c.ask.ensures.marked

pub returns-clause-history : goal.returns-clause-history
returns-clause-history g c = c.ask.ensures.history

pub returns-clause-count : goal.returns-clause-count
returns-clause-count g c = c.in-Err.ensures.count

pub returns-in-Ok-clause-parents : goal.returns-in-Ok-clause-parents
returns-in-Ok-clause-parents g c = c.in-Ok.ensures ∙ c.deref.ensures.value ∙ ap parents_in (rw c.in-Ok-Some.field-0-is at c.in-Ok-Some.ensures.found)

pub returns-in-Ok-None-clause-parents : goal.returns-in-Ok-None-clause-parents
returns-in-Ok-None-clause-parents g c = rw c.requires (ap parents_in (rw c.in-Ok-None.field-0-is at c.in-Ok-None.ensures.found))
