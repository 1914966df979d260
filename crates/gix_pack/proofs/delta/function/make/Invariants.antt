use Rattle.std.proofs.Common.{◌≤◌, length}
use Rattle.gix_pack.proofs.Made.{IsFollowed}
use Rattle.gix_pack.proofs.delta.function.make.Given as goal

abbrev pub invariant-steps : goal.invariant-steps
invariant-steps g l = record {
  followed : IsFollowed l.base l.text l.rest l.target.items;
  within : length l.target.items ≤ l.size;
}

abbrev pub decreases-steps : goal.decreases-steps
decreases-steps g l = length l.rest
