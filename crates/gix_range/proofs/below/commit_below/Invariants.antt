use Rattle.std.proofs.Common.{IsTrue}
use Rattle.gix_base.specs.declared.hash.ObjectId.{ObjectId}
use Rattle.gix_revwalk.specs.History.{is_one_of}
use Rattle.gix_merge_base.proofs.AfterCalls.{AfterCalls}
use Rattle.gix_range.specs.Lines.{Leads, queued}
use Rattle.gix_range.proofs.below.commit_below.Given as goal

abbrev pub invariant-loop-step : goal.invariant-loop-step
invariant-loop-step g l = record {
  begun : (c : ObjectId) → IsTrue (is_one_of l.ids c) → IsTrue (is_one_of l.lines.met c);
  leads : Leads (g.S.Find.history l.fn.graph.source) l.lines.met (queued l.lines.ends);
  after : AfterCalls g.S.Find.history g.S.Find.fault_count l.fn.graph l.graph;
}
