use Rattle.std.proofs.Common.{rules, ◌∙◌, refl}
use Rattle.gix_revwalk.proofs.graph.marks.Graph+S+u32+A.with_times.Goals as goal

pub loop-parent-init : goal.loop-parent-init
loop-parent-init g c = record { held = refl; timed = search rules; history = refl; count = refl }

pub returns-in_err-found-clause-held : goal.returns-in_err-found-clause-held
returns-in_err-found-clause-held g c = c.ask.ensures.held ∙ c.loop-parent.invariant.held

pub returns-in_err-found-clause-history : goal.returns-in_err-found-clause-history
returns-in_err-found-clause-history g c = c.ask.ensures.history ∙ c.loop-parent.invariant.history

pub returns-in_err-push-clause-held : goal.returns-in_err-push-clause-held
returns-in_err-push-clause-held g c = c.ask.ensures.held ∙ c.loop-parent.invariant.held

pub returns-in_err-push-clause-history : goal.returns-in_err-push-clause-history
returns-in_err-push-clause-history g c = c.ask.ensures.history ∙ c.loop-parent.invariant.history

pub returns-clause-held : goal.returns-clause-held
returns-clause-held g c = c.loop-parent.invariant.held

pub returns-clause-history : goal.returns-clause-history
returns-clause-history g c = c.loop-parent.invariant.history

pub returns-clause-count : goal.returns-clause-count
returns-clause-count g c = c.loop-parent.invariant.count
