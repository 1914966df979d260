use Rattle.std.proofs.Common.{refl}
use Rattle.std.specs.Prelude.{codes}
use Rattle.gix_ref_text.proofs.Told.{marked-line, if_some}
use Rattle.gix_ref_text.proofs.packed.traits_of.Goals as goal

pub returns : goal.returns
returns c =
    if_some _ c.strip_prefix.result (λ traits is name. marked-line 16 35 (codes " pack-refs with:") c.args.line.now name refl is.0) c.strip_prefix.ensures.cases
