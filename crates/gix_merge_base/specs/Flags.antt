-- Sets of marks as numbers whose bits are the marks.
use Rattle.std.specs.Prelude.{ℕ, Bool, ◌==◌}
use Rattle.std.specs.Int.RustNames.{bit_and}
use Rattle.gix_merge_base.specs.declared.merge_base.flags.Flags.{Flags}

-- The number whose bits are the marks in flags.
abbrev pub bits_of : Flags → ℕ
bits_of flags = flags.0

-- Every bit of other is in flags.
abbrev pub has_all : Flags → Flags → Bool
has_all flags other = bit_and (bits_of flags) (bits_of other) == bits_of other
