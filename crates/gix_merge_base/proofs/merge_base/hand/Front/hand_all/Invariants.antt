use Rattle.std.proofs.Common.{take, IsTrue}
use Rattle.gix_base.specs.declared.hash.ObjectId.{ObjectId}
use Rattle.gix_revwalk.specs.History.{Has, is_one_of}
use Rattle.gix_merge_base.specs.Front.{HandsOn, Keeps, HoldsSame}
use Rattle.gix_merge_base.specs.Marks.{marks_of}
use Rattle.gix_merge_base.specs.PaintQueue.{ids_at}
use Rattle.gix_merge_base.proofs.merge_base.hand.Front.hand_all.Given as goal

abbrev pub invariant-loop-number : goal.invariant-loop-number
invariant-loop-number g l = record {
  hands : ((c : ObjectId) → IsTrue (is_one_of (ids_at l.fn.graph l.numbers) c) → Has (g.S.Find.history l.fn.graph.source) c)
      → HandsOn (g.S.Find.history l.fn.graph.source) (marks_of l.marks) (take l.number-index (ids_at l.fn.graph l.numbers)) l.fn.graph l.fn.self l.graph l.self;
  keeps : Keeps (g.S.Find.history l.fn.graph.source) (marks_of l.marks) l.fn.graph l.fn.self l.graph l.self;
  same : HoldsSame l.fn.graph l.graph;
}
