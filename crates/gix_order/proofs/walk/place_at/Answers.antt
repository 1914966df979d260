use Rattle.std.proofs.Common.{sym}
use Rattle.gix_order.proofs.Lists.{get_or-dated, get_or-topological}
use Rattle.gix_order.proofs.walk.place_at.Goals as goal

pub returns-in-Dated : goal.returns-in-Dated
returns-in-Dated c = rw c.in-Dated.is (sym (get_or-dated c.args.count c.args.number c.requires))

pub returns-in-Topological : goal.returns-in-Topological
returns-in-Topological c = rw c.in-Topological.is (sym (get_or-topological c.args.count c.args.number c.requires))
