use Rattle.std.proofs.Common.{take, IsTrue}
use Rattle.gix_base.specs.declared.hash.ObjectId.{ObjectId}
use Rattle.gix_revwalk.specs.History.{is_one_of}
use Rattle.gix_range.specs.Lines.{Leads, queued}
use Rattle.gix_range.proofs.below.begin_lines.Given as goal

abbrev pub invariant-loop-id : goal.invariant-loop-id
invariant-loop-id g l = record {
  begun : (c : ObjectId) → IsTrue (is_one_of (take l.id-index l.ids) c) → IsTrue (is_one_of l.lines.met c);
  leads : Leads (g.S.Find.history l.fn.graph.source) l.lines.met (queued l.lines.ends);
}
