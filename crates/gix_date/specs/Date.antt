-- The time that a date stands for.
use Rattle.std.specs.Prelude.{ℕ, List, Result, Err, unwrap_or, if◌then◌else◌}
use Rattle.std.specs.Str.{is_utf8}
use Rattle.gix_base.specs.declared.date.Time.{Time}
use Rattle.gix_date.specs.declared.date.error.DateError.{DateError}
use Rattle.gix_date.specs.declared.date.error.DateError.TheVariants.{NotADate}
use Rattle.gix_date.specs.RawDate.{raw_date}
use Rattle.gix_date.specs.ShortDate.{short_date}
use Rattle.gix_date.specs.Iso8601Date.{iso8601_date}
use Rattle.gix_date.specs.WordDate.{word_date}
use Rattle.gix_date.specs.RelativeDate.{relative_date}
use Rattle.gix_date.specs.Rfc2822Date.{rfc2822_date}

-- The time that a text stands for at a moment: by the form whose shape it has, and otherwise by
-- RFC 2822. Bytes that are not UTF-8 are not a date.
unfoldable pub date_of : List ℕ → Time → Result Time DateError
date_of text now =
    if is_utf8 text
    then unwrap_or (raw_date text) (unwrap_or (short_date text) (unwrap_or (iso8601_date text now)
    (unwrap_or (word_date text now) (unwrap_or (relative_date text now) (rfc2822_date text)))))
    else Err NotADate
