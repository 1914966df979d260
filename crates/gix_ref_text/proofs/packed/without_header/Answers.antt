use Rattle.gix_ref_text.proofs.Told.{told-after}
use Rattle.gix_ref_text.proofs.packed.without_header.Goals as goal

pub returns-in-Some : goal.returns-in-Some
returns-in-Some c =
    told-after (λ r. r.now) c.args.bytes.now c.cut.result.0.now c.cut.result.1 c.in-Some.after c.cut.ensures.parts c.cut.ensures.behind c.in-Some.is c.in_ok-traits.ensures
