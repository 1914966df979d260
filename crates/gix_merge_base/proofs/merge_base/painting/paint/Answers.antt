use Rattle.std.proofs.lemmas.Result.{IfOk-weaker}
use Rattle.gix_merge_base.proofs.merge_base.painting.paint.Goals as goal

pub returns-clause-common : goal.returns-clause-common
returns-clause-common g c = IfOk-weaker c.paint_with.result _ _ (λ r is. is.common) c.paint_with.ensures.painted

pub returns-clause-best : goal.returns-clause-best
returns-clause-best g c acyclic = IfOk-weaker c.paint_with.result _ _ (λ r is. is.best acyclic) c.paint_with.ensures.painted

pub returns-clause-once : goal.returns-clause-once
returns-clause-once g c = IfOk-weaker c.paint_with.result _ _ (λ r is. is.once) c.paint_with.ensures.painted

pub returns-clause-most : goal.returns-clause-most
returns-clause-most g c n size = IfOk-weaker c.paint_with.result _ _ (λ r is. is.most n size) c.paint_with.ensures.painted

pub returns-clause-least : goal.returns-clause-least
returns-clause-least g c acyclic = IfOk-weaker c.paint_with.result _ _ (λ r is. is.least acyclic) c.paint_with.ensures.painted

pub returns-clause-reached : goal.returns-clause-reached
returns-clause-reached g c = c.paint_with.ensures.reached

pub returns-clause-taken : goal.returns-clause-taken
returns-clause-taken g c = c.paint_with.ensures.taken

pub returns-clause-strict : goal.returns-clause-strict
returns-clause-strict g c falls = IfOk-weaker c.paint_with.result _ _ (λ r is. is.strict falls) c.paint_with.ensures.painted

pub returns-clause-falling : goal.returns-clause-falling
returns-clause-falling g c none = IfOk-weaker c.paint_with.result _ _ (λ r is. is.falling none) c.paint_with.ensures.painted

pub returns-clause-history : goal.returns-clause-history
returns-clause-history g c = c.paint_with.ensures.after.graph.same_history

pub returns-clause-cause : goal.returns-clause-cause
returns-clause-cause g c = c.paint_with.ensures.after.cause

pub returns-clause-count : goal.returns-clause-count
returns-clause-count g c = c.paint_with.ensures.after.graph.count

pub returns-clause-held : goal.returns-clause-held
returns-clause-held g c = c.paint_with.ensures.after.graph.held
