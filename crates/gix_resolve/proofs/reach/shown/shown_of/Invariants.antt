use Rattle.std.proofs.Common.{◌≡◌, take}
use Rattle.std.specs.List.{filter}
use Rattle.gix_merge_base.specs.PaintQueue.{AreIn, marks_at, ids_at}
use Rattle.gix_resolve.specs.ReachSides.{shows}
use Rattle.gix_resolve.proofs.reach.shown.shown_of.Given as goal

abbrev pub invariant-loop-number : goal.invariant-loop-number
invariant-loop-number g l =
    AreIn l.graph l.shown.items × (ids_at l.graph l.shown.items ≡ filter (λ c. shows l.both (marks_at l.graph c)) (take l.number-index (ids_at l.graph l.met)))
