use Rattle.std.proofs.Common.{◌≡◌, ◌<◌, ◌≤◌, length, arith, get_or, sym}
use Rattle.std.proofs.lemmas.List.{take_all}
use Rattle.gix_revwalk.proofs.Calls.{calls_counted, calls_keep, calls_next}
use Rattle.gix_merge_base.specs.Queries.{is_refused_by_source}
use Rattle.gix_merge_base.proofs.BaseCalls.{counts, keeps, calls_right}
use Rattle.gix_merge_base.proofs.merge_base.queries.run.Goals as goal

pub loop-query-preserved : goal.loop-query-preserved
loop-query-preserved g c =
    let test : c.loop-query.query-index < length c.args.queries.now = omega arith in
    let item : get_or c.args.queries.now c.loop-query.query-index c.query-item.result ≡ c.query-item.result = sym c.query-item.is in
    record {
      calls = rw c.push_reserved.ensures.items (calls_next _ _ _ c.query-item.result _ c.answer_to.result _ _ _ test c.loop-query.invariant.calls (rw item c.answer_to.ensures));
      len = omega (arith, c.push_reserved.ensures.len, c.loop-query.invariant.len);
      room = omega (arith, c.push_reserved.ensures.capacity, c.loop-query.invariant.room);
    }

pub returns-clause-answers : goal.returns-clause-answers
returns-clause-answers g c =
    let done : length c.args.queries.now ≤ c.loop-query.query-index = omega arith in
    let calls = rw (take_all c.loop-query.query-index c.args.queries.now done) at c.loop-query.invariant.calls in
    calls_right _ _ _ _ _ _ calls

pub returns-clause-count : goal.returns-clause-count
returns-clause-count g c =
    calls_counted _ is_refused_by_source (λ graph. g.S.Find.fault_count graph.source) (counts _ _) _ _ _ _ c.loop-query.invariant.calls

pub returns-clause-history : goal.returns-clause-history
returns-clause-history g c =
    calls_keep _ (λ graph. g.S.Find.history graph.source) (keeps _ _) _ _ _ _ c.loop-query.invariant.calls
