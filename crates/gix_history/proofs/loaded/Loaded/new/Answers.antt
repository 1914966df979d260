use Rattle.gix_history.proofs.Settled.{empty-loaded}
use Rattle.gix_history.proofs.loaded.Loaded.new.Goals as goal

pub invariant_of-result : goal.invariant_of-result
invariant_of-result g c = empty-loaded _ _ c.with_seed.ensures.empty c.with_hasher.ensures.empty
