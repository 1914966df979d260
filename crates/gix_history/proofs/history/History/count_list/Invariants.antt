use Rattle.gix_history.specs.Grown.{Grows}
use Rattle.gix_history.specs.Whole.{IsListed}
use Rattle.gix_history.proofs.history.History.count_list.Given as goal

abbrev pub invariant-loop-place : goal.invariant-loop-place
invariant-loop-place g l = record {
  grown : Grows l.fn.self.known l.self.known;
  listed : IsListed l.fn.list.items l.self.known.commits l.list.items l.place l.count;
}
