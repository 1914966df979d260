use Rattle.std.proofs.Common.{refl}
use Rattle.gix_ref_text.proofs.Ids.{read, refused}
use Rattle.gix_ref_text.proofs.lines.id_of.Goals as goal

pub returns-in-Ok : goal.returns-in-Ok
returns-in-Ok c = read _ _ (c.in-Ok.ensures.read.0 refl) c.in-Ok.ensures.value

pub returns-in-Err : goal.returns-in-Err
returns-in-Err c = refused _ c.in-Err.ensures.read.1
