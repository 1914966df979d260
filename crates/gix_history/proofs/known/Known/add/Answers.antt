use Rattle.std.proofs.Common.{◌∙◌, sym}
use Rattle.gix_history.proofs.Grown.{lacks-of}
use Rattle.gix_history.proofs.known.Known.add.Goals as goal

pub put-requires-clause-new : goal.put-requires-clause-new
put-requires-clause-new g c = lacks-of _ (sym c.in_ok-has.ensures ∙ c.if-branch.false)
