use Rattle.std.proofs.Common.{◌∙◌, sym}
use Rattle.gix_history.proofs.Settled.{level-found}
use Rattle.gix_history.proofs.loaded.Loaded.level.Goals as goal

pub returns : goal.returns
returns g c =
    rw (← c.self.view_is) (level-found c.self.inside.commits c.self.inside.levels.entries c.args.id c.copied.result (sym c.get.ensures.value ∙ sym c.copied.ensures) c.self.invariant)
