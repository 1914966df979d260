use Rattle.std.proofs.Common.{sym}
use Rattle.gix_pack.proofs.Objects.{objects-length}
use Rattle.gix_pack.proofs.index.file.Index.len.Goals as goal

pub returns : goal.returns
returns g c = rw (← c.self.view_is) (sym (objects-length (g.B.AsSlice.items c.self.inside.bytes) c.self.inside.table c.self.invariant.0))
