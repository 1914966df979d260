use Rattle.std.proofs.Common.{ap, ◌∙◌}
use Rattle.std.proofs.lemmas.List.{take_all}
use Rattle.gix_merge_base.specs.Counting.{unstale}
use Rattle.gix_merge_base.specs.PaintQueue.{marks_at, ids_at}
use Rattle.gix_merge_base.proofs.Listed.{in-item}
use Rattle.gix_merge_base.proofs.merge_base.reduction.count_unmet.Goals as goal

pub mark_of-requires : goal.mark_of-requires
mark_of-requires g c = in-item c.args.graph.now c.args.numbers.now c.loop-number.number-index (record { 0 = 0 }) c.requires c.loop-number-test.true

pub returns : goal.returns
returns g c = c.loop-number.invariant.counted ∙ ap (λ l. unstale (marks_at c.args.graph.now) (ids_at c.args.graph.now l)) (take_all c.loop-number.number-index c.args.numbers.now c.loop-number-test.false)
