use Rattle.std.proofs.Common.{◌∙◌}
use Rattle.std.proofs.lemmas.Iterator.Adapters.{YieldsList-from_vec, fact_from_collect}
use Rattle.std.proofs.lemmas.Result.{IfOk-at_ok}
use Rattle.std.specs.BTreeSet.{IsFromIterResult}
use Rattle.gix_base.specs.Hash.{id_order}
use Rattle.gix_c_core.proofs.Lacking.{set-holds}
use Rattle.gix_c_core.proofs.missing.set_of.Goals as goal

pub returns : goal.returns
returns c =
    let all = YieldsList-from_vec c.args.ids.items c.into_iter.ensures.rest (c.into_iter.ensures.len ∙ c.args.ids.ok.0) in
    set-holds c.args.ids.items c.in_ok-set.set (IfOk-at_ok _ c.in_ok-set.was (fact_from_collect (IsFromIterResult id_order) _ c.collect.ensures.ran all)).0
