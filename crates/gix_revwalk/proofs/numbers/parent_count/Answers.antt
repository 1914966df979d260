use Rattle.std.proofs.Common.{◌∙◌, ap, sym, length}
use Rattle.gix_revwalk.specs.History.{parents_in}
use Rattle.gix_revwalk.proofs.numbers.parent_count.Goals as goal

pub returns : goal.returns
returns g c id is = ap length (c.parents.ensures ∙ sym (ap parents_in (c.value.ensures.agrees id is)))
