use Rattle.std.proofs.Common.{◌∙◌, arith, w32, w64, FitsSigned, pos, ◌*ℤ◌, ◌+ℤ◌, ◌-ℤ◌}
use Rattle.std.proofs.lemmas.Int.{to_z-of_z}
use Rattle.jiff_core.proofs.SignedLemmas.{signed_arith}
use Rattle.gix_date.proofs.date.civil.seconds_at.Goals as goal

pub returns : goal.returns
returns c =
    let offset = c.from.ensures ∙ to_z-of_z w32 c.args.offset c.ranges.offset in
    let wide : FitsSigned w64 c.args.offset = omega (arith, signed_arith) in
    let days : FitsSigned w64 (c.args.day *ℤ pos 86400) = omega (arith, signed_arith) in
    let sum : FitsSigned w64 (c.args.day *ℤ pos 86400 +ℤ c.args.second) = omega (arith, signed_arith) in
    let all : FitsSigned w64 (c.args.day *ℤ pos 86400 +ℤ c.args.second -ℤ c.args.offset) = omega (arith, signed_arith) in
    rw (offset, to_z-of_z w64 _ wide, to_z-of_z w64 c.args.day c.ranges.day, to_z-of_z w64 c.args.second c.ranges.second, to_z-of_z w64 _ days, to_z-of_z w64 _ sum) (to_z-of_z w64 _ all)
