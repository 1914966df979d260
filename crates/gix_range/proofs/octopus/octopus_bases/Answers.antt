use Rattle.std.proofs.Common.{◌∷◌, ◌<◌, ◌≤◌, sym, subst, take, length, arith}
use Rattle.std.proofs.lemmas.List.{take_all}
use Rattle.gix_revwalk.proofs.Members.{one_of-at, one_of-head, one_of-tail, take_next}
use Rattle.gix_merge_base.proofs.AfterCalls.{after_none, after_more, after_ok}
use Rattle.gix_range.specs.Octopus.{Meets}
use Rattle.gix_range.proofs.Meeting.{meets_one}
use Rattle.gix_range.proofs.octopus.octopus_bases.Goals as goal

pub loop-other-init : goal.loop-other-init
loop-other-init g c =
    let h = g.S.Find.history c.args.graph.now.source in
    let f = c.args.first in
    let os = c.args.others.now in
    record {
      meets = λ acyclic. meets_one h (f ∷ os) c.in_ok-common.common.items f (one_of-head f os) acyclic c.in_ok-common.ensures.exact;
      after = after_more _ _ _ _ (after_none c.args.graph.now) (after_ok _ _ _ c.in_ok-common.ensures.after);
    }

pub loop-other-preserved : goal.loop-other-preserved
loop-other-preserved g c =
    let h = g.S.Find.history c.args.graph.now.source in
    let f = c.args.first in
    let os = c.args.others.now in
    let i = c.loop-other.other-index in
    let old = c.loop-other.invariant in
    let below : i < length os = omega arith in
    let at = take_next os i _ below in
    record {
      meets = λ acyclic. subst (λ l. Meets h (f ∷ os) (f ∷ l) c.meet.new.common.items) (sym at)
          ((rw old.after.graph.same_history at c.in_ok-meet.ensures.meets) (f ∷ os) (f ∷ take i os) acyclic (one_of-tail f os _ (one_of-at os i _ below)) (old.meets acyclic));
      after = after_more _ _ _ _ old.after (after_ok _ _ _ c.in_ok-meet.ensures.after);
    }

pub returns-clause-exact : goal.returns-clause-exact
returns-clause-exact g c acyclic =
    let h = g.S.Find.history c.args.graph.now.source in
    let f = c.args.first in
    let os = c.args.others.now in
    let done : length os ≤ c.loop-other.other-index = omega arith in
    let whole = take_all c.loop-other.other-index os done in
    (subst (λ l. Meets h (f ∷ os) (f ∷ l) c.loop-other.common.items) whole (c.loop-other.invariant.meets acyclic)).exact
