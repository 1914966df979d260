use Rattle.std.below.core.proofs.iter.Serving.{as_err}
use Rattle.std.proofs.Common.{◌∙◌, arith}
use Rattle.gix_merge_base.proofs.Listed.{in-item}
use Rattle.gix_resolve.proofs.ListWalks.{all-taken}
use Rattle.gix_resolve.proofs.ListWalks.{ids-step}
use Rattle.gix_resolve.proofs.list.walk.ids_of.Goals as goal

pub loop-number-preserved : goal.loop-number-preserved
loop-number-preserved g c =
    ids-step c.args.graph.now c.args.numbers.now c.loop-number.number-index _ c.loop-number-test.true c.loop-number.ids.items c.push.new.self.items c.id_of.result
    c.loop-number.invariant c.id_of.ensures.named c.in_ok-push.ensures.items

pub id_of-requires : goal.id_of-requires
id_of-requires g c = in-item c.args.graph.now c.args.numbers.now c.loop-number.number-index _ c.requires c.loop-number-test.true

pub returns : goal.returns
returns g c = c.loop-number.invariant ∙ all-taken c.args.graph.now c.args.numbers.now c.loop-number.number-index (omega arith)

pub returns-in_err-ids : goal.returns-in_err-ids
returns-in_err-ids g c = rw (as_err c.from_residual.ensures.0).1 tt

pub returns-in_err-push : goal.returns-in_err-push
returns-in_err-push g c = rw (as_err c.from_residual-in_err-push.ensures.0).1 tt

pub offset_bounds-numbers-number-index : goal.offset_bounds-numbers-number-index
offset_bounds-numbers-number-index g c = record { fits = omega arith }
