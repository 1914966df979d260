use Rattle.std.proofs.Common.{sym, subst}
use Rattle.std.specs.List.{All}
use Rattle.std.proofs.lemmas.List.Elements.{All-nil}
use Rattle.gix_history.specs.Waiting.{IsPending}
use Rattle.gix_history.proofs.Settled.{all-and-one}
use Rattle.gix_history.proofs.loaded.path_of.Goals as goal

pub returns : goal.returns
returns g c = λ h. all-and-one h _ _ _ c.in_ok-push.ensures.items (subst (λ xs. All (IsPending h) xs) (sym c.new-path.ensures.items) (All-nil (IsPending h))) (c.in_ok-open.ensures.pending h)
