use Rattle.std.proofs.Common.{◌≡◌, ◌-◌, ◌^◌, ◌<◌, drop, length}
use Rattle.gix_pack.specs.PackNumbers.{low_first}
use Rattle.gix_pack.proofs.numbers.low_first.Given as goal

abbrev pub invariant-loop-place : goal.invariant-loop-place
invariant-loop-place l = record {
  value : l.value ≡ low_first (drop (length l.bytes - l.place) l.bytes);
  bound : l.value < 128 ^ l.place;
}
