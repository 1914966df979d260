use Rattle.std.proofs.Common.{◌≡◌, ℕ, ◌<◌, ◌≤◌, false}
use Rattle.gix_spec.specs.Cut.{after_dot, ends_name}
use Rattle.gix_spec.proofs.spec.parse.cut.cut.Given as goal

-- the part of the name since its last dot begins at `start`, and the name ends at no place so far
abbrev pub invariant-loop-place : goal.invariant-loop-place
invariant-loop-place l = record {
  start : l.start ≡ after_dot l.text l.place;
  small : l.start ≤ l.place;
  none : (k : ℕ) → k < l.place → ends_name l.text (after_dot l.text k) k ≡ false;
}
