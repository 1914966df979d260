use Rattle.std.proofs.Common.{refl}
use Rattle.gix_revwalk.proofs.graph.commit.Graph+S+Commit+D+A+A.get_or_insert_full_commit.Goals as goal

pub returns : goal.returns
returns g c = (
  (refl, (λ w. refl), tt),
  record {
    rests = tt;
    same_reference = refl;
    id = refl;
    held = λ held. (c.in_ok-take.ensures.held held).1;
    history = c.in_ok-take.ensures.history;
    count = c.in_ok-take.ensures.count;
    found = c.in_ok-take.ensures.found;
    taken = c.in_ok-take.ensures.taken;
    len = c.in_ok-take.ensures.len;
  },
)
