use Rattle.std.proofs.Common.{ap, ◌∙◌}
use Rattle.std.specs.Prelude.{is_some}
use Rattle.gix_ref_text.specs.Known.{first_read}
use Rattle.gix_ref.proofs.Knows.{found_last}
use Rattle.gix_ref.proofs.store.References.read_loose.Goals as goal

pub returns-clause-read : goal.returns-clause-read
returns-clause-read g c =
    ap (λ x. is_some (first_read x c.args.name.now)) c.in_ok-keep.ensures.kept ∙ found_last _ c.args.name.now _
