use Rattle.std.proofs.Common.{refl}
use Rattle.gix_revwalk.proofs.graph.commit.FullCommit.data.Goals as goal

pub returns : goal.returns
returns g c = (
  (refl, c.data_mut.follows.holds, c.data_mut.follows.holds-at-none),
  record { writes_back = tt; value = c.data_mut.ensures.value },
)
