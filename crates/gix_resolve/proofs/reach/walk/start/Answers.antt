use Rattle.std.below.core.proofs.iter.Serving.{as_err}
use Rattle.std.proofs.Common.{refl, ap}
use Rattle.std.specs.Option.{unwrap_or}
use Rattle.gix_merge_base.specs.Marks.{marks_of}
use Rattle.gix_merge_base.specs.PaintQueue.{marks_at, queued_ids, no_mark}
use Rattle.gix_resolve.proofs.ReachNext.{right_none}
use Rattle.gix_resolve.proofs.ReachSides.{walked_none}
use Rattle.gix_resolve.proofs.reach.walk.start.Goals as goal

pub begin_both-requires-clause-right : goal.begin_both-requires-clause-right
begin_both-requires-clause-right g c = right_none (g.S.Find.history c.begin_walk.new.graph.source) c.begin_walk.new.graph _ c.begin_walk.ensures.none c.new.ensures.items c.new-2.ensures refl

pub begin_both-requires-clause-walked : goal.begin_both-requires-clause-walked
begin_both-requires-clause-walked g c =
    let begun = c.begin_walk.new.graph in
    walked_none (g.S.Find.history begun.source) c.args.both (marks_at begun) (queued_ids begun c.new-2.result) _ (λ q. ap (λ o. marks_of (unwrap_or o no_mark).marks) (c.begin_walk.ensures.none q)) (ap (queued_ids begun) c.new-2.ensures)

pub returns-in_err-begin_both-clause-right : goal.returns-in_err-begin_both-clause-right
returns-in_err-begin_both-clause-right g c = rw (as_err c.from_residual.ensures.0).1 tt

pub returns-in_err-begin_both-clause-walked : goal.returns-in_err-begin_both-clause-walked
returns-in_err-begin_both-clause-walked g c = rw (as_err c.from_residual.ensures.0).1 tt

pub returns-in_err-begin_both-clause-both : goal.returns-in_err-begin_both-clause-both
returns-in_err-begin_both-clause-both g c = rw (as_err c.from_residual.ensures.0).1 tt
