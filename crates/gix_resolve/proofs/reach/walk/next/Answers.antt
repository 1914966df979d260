use Rattle.std.proofs.Common.{subst, sym, arith}
use Rattle.std.proofs.lemmas.List.Sorted.{IsPermutation-trans}
use Rattle.gix_merge_base.proofs.Numbered.{same-len}
use Rattle.gix_resolve.specs.ReachWalk.{IsRight, with_open}
use Rattle.gix_resolve.proofs.ReachNext.{over_below, popped_inside, left_queue, right_open}
use Rattle.gix_resolve.proofs.reach.walk.next.Goals as goal

pub returns-then-generation-walk-clause-over : goal.returns-then-generation-walk-clause-over
returns-then-generation-walk-clause-over g c t =
    let is = c.from-generation.ensures in
    over_below (g.S.Find.history c.args.graph.now.source) c.args.graph.now c.args.walk.now c.in_ok-generation.generation c.requires c.if-walk-eq0.true
    (omega (arith, is, c.if-generation-walk.true)) c.in_ok-generation.ensures.greatest

pub leave-requires : goal.leave-requires
leave-requires g c =
    let walk = c.args.walk.now in
    subst (λ k. IsRight (g.S.Find.history c.args.graph.now.source) c.args.graph.now (with_open k c.in_ok-generation.number (record { both = walk.both; met = walk.met; front = c.pop.new.self; unhidden = walk.unhidden; least = walk.least }))) (sym c.from-generation.ensures)
    (right_open (g.S.Find.history c.args.graph.now.source) c.args.graph.now c.in_ok-generation.generation c.in_ok-generation.number c.args.walk.now c.pop.new.self c.requires c.in_ok-generation.ensures.taken)

pub returns-clause-taken : goal.returns-clause-taken
returns-clause-taken g c = record {
  queue = IsPermutation-trans _ _ _ (left_queue (g.S.Find.history c.args.graph.now.source) c.args.graph.now c.in_ok-generation.generation c.in_ok-generation.number c.args.walk.now c.pop.new.self c.requires c.in_ok-generation.ensures.taken) c.leave.ensures.taken.queue;
  least = c.leave.ensures.taken.least;
}

pub returns-clause-right : goal.returns-clause-right
returns-clause-right g c t = c.leave.ensures.right

pub returns-clause-inside : goal.returns-clause-inside
returns-clause-inside g c =
    rw (same-len c.args.graph.now c.leave.new.graph c.leave.ensures.ids)
    (popped_inside (g.S.Find.history c.args.graph.now.source) c.args.graph.now c.in_ok-generation.generation c.in_ok-generation.number c.args.walk.now c.pop.new.self c.requires c.in_ok-generation.ensures.taken)

pub returns-clause-had : goal.returns-clause-had
returns-clause-had g c = c.leave.ensures.had

pub returns-clause-marks : goal.returns-clause-marks
returns-clause-marks g c = c.leave.ensures.marks

pub returns-clause-marked : goal.returns-clause-marked
returns-clause-marked g c = c.leave.ensures.right.met

pub returns-clause-both : goal.returns-clause-both
returns-clause-both g c = c.leave.ensures.both

pub returns-clause-ids : goal.returns-clause-ids
returns-clause-ids g c = c.leave.ensures.ids

pub returns-clause-source : goal.returns-clause-source
returns-clause-source g c = c.leave.ensures.source
