use Rattle.std.proofs.Common.{sym, subst, [], length, ◌<◌, ◌≤◌, arith}
use Rattle.std.proofs.lemmas.List.{take_all}
use Rattle.gix_revwalk.proofs.Members.{one_of-at}
use Rattle.gix_merge_base.proofs.AfterCalls.{after_none, after_more, after_ok}
use Rattle.gix_range.specs.Independent.{Frees}
use Rattle.gix_range.proofs.Frees.{frees_none, frees_next, frees_all}
use Rattle.gix_range.proofs.independence.independent.Goals as goal

pub loop-id-init : goal.loop-id-init
loop-id-init g c =
    let h = g.S.Find.history c.args.graph.now.source in
    record {
      frees = subst (Frees h c.args.ids.now []) (sym c.new-kept.ensures.items) (frees_none h c.args.ids.now);
      after = after_none c.args.graph.now;
    }

pub keep_if_free-requires : goal.keep_if_free-requires
keep_if_free-requires g c =
    let below : c.loop-id.id-index < length c.args.ids.now = omega arith in
    one_of-at c.args.ids.now c.loop-id.id-index _ below

pub loop-id-preserved : goal.loop-id-preserved
loop-id-preserved g c =
    let old = c.loop-id.invariant in
    let same = old.after.graph.same_history in
    let below : c.loop-id.id-index < length c.args.ids.now = omega arith in
    record {
      frees = frees_next (g.S.Find.history c.args.graph.now.source) c.args.ids.now c.loop-id.kept.items c.keep_if_free.new.kept.items c.loop-id.id-index _ below old.frees (rw same at c.in_ok-keep_if_free.ensures.frees);
      after = after_more _ _ _ _ old.after (after_ok _ _ _ c.in_ok-keep_if_free.ensures.after);
    }

pub returns-clause-exact : goal.returns-clause-exact
returns-clause-exact g c acyclic =
    let done : length c.args.ids.now ≤ c.loop-id.id-index = omega arith in
    frees_all (g.S.Find.history c.args.graph.now.source) c.args.ids.now c.loop-id.kept.items (rw (take_all c.loop-id.id-index c.args.ids.now done) at c.loop-id.invariant.frees) acyclic
