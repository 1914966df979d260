-- `now` and `yesterday`.
use Rattle.std.specs.Prelude.{ℕ, List, codes, Some, None, Ok, pos, ◌-ℤ◌, if◌then◌else◌}
use Rattle.gix_base.specs.declared.date.Time.{Time}
use Rattle.gix_date.specs.Shape.{is_word}
use Rattle.gix_date.specs.DateReading.{Reading, time_at}

-- The moment itself for `now`, and 86400 seconds before it, by the same clock, for `yesterday`.
unfoldable pub word_date : List ℕ → Time → Reading
word_date text now =
    if is_word (codes "now") text then Some (Ok now)
    else (if is_word (codes "yesterday") text then Some (time_at (now.seconds -ℤ pos 86400) now.offset) else None)
