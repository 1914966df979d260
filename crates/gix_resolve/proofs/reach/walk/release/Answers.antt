use Rattle.gix_revwalk.specs.Graph.{held_len}
use Rattle.gix_resolve.proofs.reach.walk.release.Goals as goal

pub time_at-requires : goal.time_at-requires
time_at-requires g c = c.in-Some.ensures (held_len c.args.graph.now) c.requires.held
