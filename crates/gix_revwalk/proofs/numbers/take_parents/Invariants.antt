use Rattle.std.proofs.Common.{◌≡◌, Some, take}
use Rattle.gix_base.specs.declared.hash.ObjectId.{ObjectId}
use Rattle.gix_revwalk.specs.History.{entry_at, parents_in}
use Rattle.gix_revwalk.specs.Number.{place_in}
use Rattle.gix_revwalk.specs.Numbers.{named, Grows}
use Rattle.gix_revwalk.specs.Walks.{HoldsMore}
use Rattle.gix_revwalk.specs.Rows.{AreNumbers}
use Rattle.gix_revwalk.proofs.numbers.take_parents.Given as goal

abbrev pub invariant-loop-i : goal.invariant-loop-i
invariant-loop-i g l = record {
  numbers : (id : ObjectId) → named l.fn.graph (place_in l.number) ≡ Some id → AreNumbers (g.S.Find.history l.fn.graph.source) l.graph (take l.i (parents_in (entry_at (g.S.Find.history l.fn.graph.source) id))) l.into.items;
  grows : Grows l.fn.graph l.graph;
  more : (id : ObjectId) → named l.fn.graph (place_in l.number) ≡ Some id → HoldsMore (g.S.Find.history l.fn.graph.source) (parents_in (entry_at (g.S.Find.history l.fn.graph.source) id)) l.fn.graph l.graph;
  history : g.S.Find.history l.graph.source ≡ g.S.Find.history l.fn.graph.source;
  count : g.S.Find.fault_count l.graph.source ≡ g.S.Find.fault_count l.fn.graph.source;
}
