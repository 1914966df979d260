use Rattle.std.below.core.proofs.iter.Serving.{as_err}
use Rattle.std.proofs.Common.{arith}
use Rattle.std.specs.List.{filter}
use Rattle.gix_merge_base.proofs.Listed.{in-item}
use Rattle.gix_resolve.proofs.ListWalks.{all-taken}
use Rattle.std.proofs.Common.{sym, ap, ◌∙◌}
use Rattle.gix_revwalk.specs.declared.numbers.Mark.{Mark}
use Rattle.gix_merge_base.specs.Marks.{marks_of}
use Rattle.gix_merge_base.specs.PaintQueue.{marks_at}
use Rattle.gix_merge_base.specs.declared.merge_base.flags.Flags.{Flags}
use Rattle.gix_resolve.specs.ReachSides.{shows}
use Rattle.gix_resolve.proofs.ReachNewest.{passed_kept, passed_left}
use Rattle.gix_resolve.proofs.reach.shown.shown_of.Goals as goal
use Rattle.gix_resolve.proofs.reach.shown.shown_of.Goals.{then-is_shown+in_ok-push, else-is_shown}

pub loop-number-preserved : goal.loop-number-preserved
loop-number-preserved g c =
    let m = c.args.graph.now in
    let test = c.is_shown.ensures ∙ ap (λ (z : Mark Flags). shows c.args.both (marks_of z.marks)) c.mark_of.ensures in
    elim c.if-is_shown.branch [
      | then-is_shown+in_ok-push w ↦
          passed_kept (λ d. shows c.args.both (marks_at m d)) m c.args.met.now c.loop-number.number-index _ c.loop-number-test.true c.loop-number.shown.items c.if-is_shown.shown.items
          c.requires (sym test ∙ w.if-is_shown.true) c.loop-number.invariant (ap (λ v. v.items) w.shown-is ∙ w.in_ok-push.ensures.items)
      | else-is_shown w ↦
          passed_left (λ d. shows c.args.both (marks_at m d)) m c.args.met.now c.loop-number.number-index _ c.loop-number-test.true c.loop-number.shown.items c.if-is_shown.shown.items
          (sym test ∙ w.if-is_shown.false) c.loop-number.invariant (ap (λ v. v.items) w.shown-is)
    ]

pub mark_of-requires : goal.mark_of-requires
mark_of-requires g c = in-item c.args.graph.now c.args.met.now c.loop-number.number-index _ c.requires c.loop-number-test.true

pub returns : goal.returns
returns g c = (c.loop-number.invariant.0, c.loop-number.invariant.1 ∙ ap (filter (λ d. shows c.args.both (marks_at c.args.graph.now d))) (all-taken c.args.graph.now c.args.met.now c.loop-number.number-index (omega arith)))

pub returns-in_err-push : goal.returns-in_err-push
returns-in_err-push g c = rw (as_err c.from_residual.ensures.0).1 tt

pub offset_bounds-met-number-index : goal.offset_bounds-met-number-index
offset_bounds-met-number-index g c = record { fits = omega arith }
