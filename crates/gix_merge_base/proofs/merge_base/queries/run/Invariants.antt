use Rattle.std.proofs.Common.{◌≡◌, ◌≤◌, take, length, vec_len}
use Rattle.std.specs.Vec.{vec_capacity}
use Rattle.gix_revwalk.specs.Calls.{AreCalls}
use Rattle.gix_merge_base.specs.Queries.{IsCall}
use Rattle.gix_merge_base.proofs.merge_base.queries.run.Given as goal

abbrev pub invariant-loop-query : goal.invariant-loop-query
invariant-loop-query g l = record {
  calls : AreCalls (IsCall g.S.Find.history g.S.Find.fault_count) (take l.query-index l.queries) l.answers.items l.fn.graph l.graph;
  len : vec_len l.answers ≡ l.query-index;
  room : length l.queries ≤ vec_capacity l.answers;
}
