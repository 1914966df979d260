use Rattle.std.proofs.Common.{◌≡◌, ◌+◌}
use Rattle.gix_base.specs.Refusals.{refusals_in, refusals_among}
use Rattle.gix_base.proofs.error.without_one.Given as goal

abbrev pub invariant-loop-last : goal.invariant-loop-last
invariant-loop-last l =
    refusals_in l.last + refusals_among l.others.items ≡ refusals_in l.initial.last + refusals_among l.initial.others.items

abbrev pub decreases-loop-last : goal.decreases-loop-last
decreases-loop-last l = refusals_in l.last
