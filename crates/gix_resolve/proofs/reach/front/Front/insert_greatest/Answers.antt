use Rattle.std.proofs.Common.{◌++◌}
use Rattle.gix_resolve.proofs.ReachFront.{hidden_joined, rest_joined}
use Rattle.gix_resolve.proofs.reach.front.Front.insert_greatest.Goals as goal

pub returns-then-hidden : goal.returns-then-hidden
returns-then-hidden g c = rw (← c.self.view_is, c.in_ok-push_back.ensures.items) (hidden_joined c.self.inside.hidden.items (c.self.inside.waiting.items ++ c.self.inside.greatest.items) c.args.number c.self.inside.others)

pub returns : goal.returns
returns g c = rw (← c.self.view_is, c.in_ok-push_back-2.ensures.items) (rest_joined c.self.inside.hidden.items c.self.inside.waiting.items c.self.inside.greatest.items c.args.number c.self.inside.others)
