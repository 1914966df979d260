use Rattle.std.proofs.Common.{sym, ap, subst, ◌∙◌, IsTrue, arith}
use Rattle.std.proofs.lemmas.List.Elements.{AllWithin-more, AllWithin-upto}
use Rattle.gix_base.specs.declared.hash.ObjectId.{ObjectId}
use Rattle.gix_revwalk.specs.declared.numbers.Mark.{Mark}
use Rattle.gix_merge_base.specs.Marks.{marks_of}
use Rattle.gix_merge_base.specs.PaintQueue.{marks_at, queued_ids}
use Rattle.gix_merge_base.specs.declared.merge_base.flags.Flags.{Flags}
use Rattle.gix_merge_base.proofs.Unmet.{entry_held, entry_id, left_at}
use Rattle.gix_merge_base.proofs.merge_base.reduction.left_from.Goals as goal

pub mark_of-requires : goal.mark_of-requires
mark_of-requires g c = entry_held (g.S.Find.history c.args.graph.now.source) c.args.graph.now c.args.order.now c.requires.order c.loop-i.i (0, record { 0 = 0 }) c.loop-i-test.true

pub returns-then-not-is_stale : goal.returns-then-not-is_stale
returns-then-not-is_stale g c =
    left_at (g.S.Find.history c.args.graph.now.source) c.args.graph.now c.args.order.now c.requires.order (marks_at c.args.graph.now) c.loop-i.i _ c.loop-i.invariant
    (λ k late within. c.requires.order.rising c.loop-i.i k (0, record { 0 = 0 }) late within)

pub loop-i-preserved : goal.loop-i-preserved
loop-i-preserved g c =
    let graph = c.args.graph.now in
    let ids = queued_ids graph c.args.order.now in
    let met = sym (c.is_stale.ensures ∙ ap (λ (z : Mark Flags). (marks_of z.marks).stale) c.mark_of.ensures) ∙ c.if-not-is_stale.false in
    AllWithin-more (λ (q : ObjectId). IsTrue (marks_at graph q).stale) ids 0 c.loop-i.i c.loop-i.invariant
    (λ e. subst (λ q. IsTrue (marks_at graph q).stale)
    (sym (entry_id (g.S.Find.history graph.source) graph c.args.order.now c.requires.order c.loop-i.i (0, record { 0 = 0 }) e c.loop-i-test.true)) met)

pub returns : goal.returns
returns g c =
    let graph = c.args.graph.now in
    let ids = queued_ids graph c.args.order.now in
    let over = c.loop-i-test.false in
    left_at (g.S.Find.history graph.source) graph c.args.order.now c.requires.order (marks_at graph) _ _
    (AllWithin-upto (λ (q : ObjectId). IsTrue (marks_at graph q).stale) ids 0 c.loop-i.i _ (omega arith) c.loop-i.invariant)
    (λ k late within. absurd (omega arith))
