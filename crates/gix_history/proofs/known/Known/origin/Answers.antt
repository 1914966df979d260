use Rattle.std.proofs.Common.{◌∙◌, sym}
use Rattle.gix_history.proofs.Grown.{origin-found}
use Rattle.gix_history.proofs.known.Known.origin.Goals as goal

pub returns-clause-from : goal.returns-clause-from
returns-clause-from g c =
    rw (← c.self.view_is) (origin-found (record { commits = c.self.inside.commits; origins = c.self.inside.origins.entries }) c.args.id c.copied.result (sym c.get.ensures.value ∙ sym c.copied.ensures) c.self.invariant.0)
