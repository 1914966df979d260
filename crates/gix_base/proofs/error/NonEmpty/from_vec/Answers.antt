use Rattle.std.proofs.Common.{sym, arith}
use Rattle.std.proofs.lemmas.List.{drop_more}
use Rattle.gix_base.proofs.error.NonEmpty.from_vec.Goals as goal

pub returns-clause-same : goal.returns-clause-same
returns-clause-same g c =
    let head = c.remove-head in
    let whole = sym (drop_more c.args.items.items 0 head.result (omega arith)) in
    rw (head.ensures.by_index.2) (rw (sym head.ensures.value) at whole)
