use Rattle.gix_history.proofs.known.Known.foreign.Goals as goal

pub returns : goal.returns
returns g c = rw (← c.self.view_is) c.self.invariant.1
