use Rattle.std.below.core.proofs.iter.Serving.{as_err}
use Rattle.std.proofs.Common.{ap, ◌∙◌, length}
use Rattle.std.specs.List.{filter}
use Rattle.gix_merge_base.specs.PaintQueue.{marks_at, ids_at}
use Rattle.gix_resolve.specs.ReachSides.{is_first_alone, is_second_alone}
use Rattle.gix_resolve.proofs.ReachCounted.{counts_sides}
use Rattle.gix_resolve.proofs.reach.count.counted.Goals as goal

pub returns-clause-counts : goal.returns-clause-counts
returns-clause-counts g c =
    let new = c.follow.new.graph in
    counts_sides new c.in_ok-walk.walk.met.items (g.S.Find.history c.args.graph.now.source) c.args.first.now c.args.second.now c.args.both c.in_ok-walk.ensures.met c.in_ok-walk.ensures.sees _ _
    (c.count_sides.ensures.first ∙ ap (λ l. length (filter (λ d. is_first_alone (marks_at new d)) (ids_at new l))) c.deref.ensures.value)
    (c.count_sides.ensures.second ∙ ap (λ l. length (filter (λ d. is_second_alone (marks_at new d)) (ids_at new l))) c.deref.ensures.value)

pub returns-in_err-walk-clause-counts : goal.returns-in_err-walk-clause-counts
returns-in_err-walk-clause-counts g c = rw (as_err c.from_residual.ensures.0).1 tt

pub returns-in_err-walk-clause-taken : goal.returns-in_err-walk-clause-taken
returns-in_err-walk-clause-taken g c = c.follow.ensures.taken

pub returns-clause-taken : goal.returns-clause-taken
returns-clause-taken g c = c.follow.ensures.taken
