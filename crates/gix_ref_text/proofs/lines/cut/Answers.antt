use Rattle.gix_ref_text.proofs.Cut.{cut-at}
use Rattle.gix_ref_text.proofs.lines.cut.Goals as goal

pub returns-clause-parts : goal.returns-clause-parts
returns-clause-parts c =
    cut-at _ _ _ _ _ _ c.len_before.ensures.value c.split_at.ensures.front c.split_at.ensures.back c.tail.ensures.value
