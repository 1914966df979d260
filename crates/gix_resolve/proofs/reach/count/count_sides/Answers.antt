use Rattle.std.proofs.Common.{◌∙◌, ap, arith}
use Rattle.gix_merge_base.specs.Marks.{marks_of}
use Rattle.gix_merge_base.specs.PaintQueue.{marks_at, ids_at}
use Rattle.gix_merge_base.specs.declared.merge_base.flags.Flags.{Flags}
use Rattle.gix_revwalk.specs.declared.numbers.Mark.{Mark}
use Rattle.gix_resolve.specs.ReachSides.{is_first_alone, is_second_alone}
use Rattle.gix_resolve.proofs.ReachCounted.{counted-below, counted_next}
use Rattle.gix_resolve.proofs.reach.count.count_sides.Goals as goal

pub count_if-firsts-requires : goal.count_if-firsts-requires
count_if-firsts-requires g c =
    let m = c.args.graph.now in
    let is = c.loop-number.invariant.first in
    let below = counted-below (λ d. is_first_alone (marks_at m d)) (ids_at m c.args.met.now) c.loop-number.number-index in
    let test = c.loop-number-test.true in
    let end = c.loop-number.auto.number-index-end in
    omega arith

pub count_if-seconds-requires : goal.count_if-seconds-requires
count_if-seconds-requires g c =
    let m = c.args.graph.now in
    let is = c.loop-number.invariant.second in
    let below = counted-below (λ d. is_second_alone (marks_at m d)) (ids_at m c.args.met.now) c.loop-number.number-index in
    let test = c.loop-number-test.true in
    let end = c.loop-number.auto.number-index-end in
    omega arith

pub loop-number-preserved : goal.loop-number-preserved
loop-number-preserved g c =
    let m = c.args.graph.now in
    record {
      first = counted_next (λ d. is_first_alone (marks_at m d)) m c.args.met.now c.loop-number.number-index _ c.loop-number-test.true c.loop-number.firsts c.count_if-firsts.result c.is_first_alone.result
          (c.is_first_alone.ensures ∙ ap (λ (z : Mark Flags). is_first_alone (marks_of z.marks)) c.mark_of.ensures) c.loop-number.invariant.first c.count_if-firsts.ensures;
      second = counted_next (λ d. is_second_alone (marks_at m d)) m c.args.met.now c.loop-number.number-index _ c.loop-number-test.true c.loop-number.seconds c.count_if-seconds.result c.is_second_alone.result
          (c.is_second_alone.ensures ∙ ap (λ (z : Mark Flags). is_second_alone (marks_of z.marks)) c.mark_of.ensures) c.loop-number.invariant.second c.count_if-seconds.ensures;
    }

pub offset_bounds-met-number-index : goal.offset_bounds-met-number-index
offset_bounds-met-number-index g c = record { fits = omega arith }
