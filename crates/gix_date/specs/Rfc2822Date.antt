-- `Thu, 18 Aug 2022 12:45:06 +0800`: git's date-formats, "RFC 2822"; RFC 2822, section 3.3.
use Rattle.std.specs.Prelude.{ℕ, List, Result, false, pos}
use Rattle.std.specs.Int.{int_div_euclid}
use Rattle.std.specs.Result.{result_map_both}
use Rattle.jiff_fmt.specs.Rfc2822.{timestamp_with_offset}
use Rattle.gix_base.specs.declared.date.Time.{Time}
use Rattle.gix_date.specs.declared.date.error.DateError.{DateError}
use Rattle.gix_date.specs.declared.date.error.DateError.TheVariants.{NotADate}

-- The whole seconds and the offset of the instant that the crate `jiff` reads. A weekday has to be
-- that of its day. A text that `jiff` does not read is not a date.
unfoldable pub rfc2822_date : List ℕ → Result Time DateError
rfc2822_date text =
    result_map_both
    (λ p. record { seconds = int_div_euclid p.0 (pos 1_000_000_000); offset = p.1 })
    (λ e. NotADate) (timestamp_with_offset false text)
