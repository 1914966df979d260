use Rattle.std.proofs.Common.{◌≡◌, ◌+◌, length}
use Rattle.gix_date.specs.Shape.{has_shape}
use Rattle.gix_date.proofs.date.shape.is_shaped.Given as goal

abbrev pub invariant-loop-marks : goal.invariant-loop-marks
invariant-loop-marks l =
    (has_shape l.marks l.rest ≡ has_shape l.shape l.text) × (length l.marks + length l.text ≡ length l.rest + length l.shape)

abbrev pub decreases-loop-marks : goal.decreases-loop-marks
decreases-loop-marks l = length l.marks
