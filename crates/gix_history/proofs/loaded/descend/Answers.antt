use Rattle.std.proofs.Common.{◌∙◌}
use Rattle.gix_history.proofs.Settled.{all-and-one}
use Rattle.gix_history.proofs.loaded.descend.Goals as goal

pub returns-in_err-push-2 : goal.returns-in_err-push-2
returns-in_err-push-2 g c = λ h one all. all-and-one h _ _ _ (c.in_err-push-2.ensures.items ∙ c.in_ok-push.ensures.items) all one

pub returns : goal.returns
returns g c = λ h one all. all-and-one h _ _ _ c.in_ok-push-2.ensures.items (all-and-one h _ _ _ c.in_ok-push.ensures.items all one) (c.in_ok-next.ensures.pending h)
