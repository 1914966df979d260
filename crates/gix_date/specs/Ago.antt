-- Units counted back, as in `2 weeks ago`: git log's `--date=relative`, in the words of git's approxidate.
use Rattle.std.specs.Prelude.{ℕ, ◌*◌, ◌^◌, Bool, ◌&&◌, ◌||◌, List, [], ◌∷◌, ◌++◌, codes, sum_by, Option, Some, None, option_map, option_and_then, Result, Ok, Err, nat_lt, if◌then◌else◌}
use Rattle.gix_date.specs.declared.date.error.DateError.{DateError}
use Rattle.gix_date.specs.declared.date.error.DateError.TheVariants.{OutOfRange}
use Rattle.gix_date.specs.declared.date.ago.Ago.{Ago}
use Rattle.gix_date.specs.Shape.{is_word}
use Rattle.gix_date.specs.Numerals.{is_number, number_of}
use Rattle.gix_date.specs.DateWords.{words_of}

-- Whether a word names a unit, in the singular or with an `s`, in any ASCII letter case.
abbrev pub names : (unit word : List ℕ) → Bool
names unit word = is_word unit word || is_word (unit ++ codes "s") word

-- One of the unit that a word names, as a number of months and a number of seconds.
unfoldable pub unit_of : List ℕ → Option Ago
unit_of word =
    if names (codes "second") word then Some (record { months = 0; seconds = 1 })
    else (if names (codes "minute") word then Some (record { months = 0; seconds = 60 })
    else (if names (codes "hour") word then Some (record { months = 0; seconds = 3600 })
    else (if names (codes "day") word then Some (record { months = 0; seconds = 86400 })
    else (if names (codes "week") word then Some (record { months = 0; seconds = 604800 })
    else (if names (codes "month") word then Some (record { months = 1; seconds = 0 })
    else (if names (codes "year") word then Some (record { months = 12; seconds = 0 }) else None))))))

-- A number of a unit.
pub record Count : Type 0 where
  pub number : ℕ
  pub each : Ago

-- The counts in some words up to the last word `ago`, if each count is a number and a unit.
unfoldable pub counts_of : List (List ℕ) → Option (List Count)
counts_of [] = None
counts_of (word ∷ []) = if is_word (codes "ago") word then Some [] else None
counts_of (number ∷ unit ∷ words) =
    if is_number number
    then option_and_then (λ each. option_map (λ counts. record { number = number_of number; each = each } ∷ counts) (counts_of words)) (unit_of unit)
    else None

-- The months that some counts add up to.
abbrev pub months_in : List Count → ℕ
months_in counts = sum_by (λ count. count.number * count.each.months) counts

-- The seconds that some counts add up to.
abbrev pub seconds_in : List Count → ℕ
seconds_in counts = sum_by (λ count. count.number * count.each.seconds) counts

-- A number of months and a number of seconds. It is out of range if one of them is past the
-- greatest `i64`.
abbrev pub total_of : (months seconds : ℕ) → Result Ago DateError
total_of months seconds =
    if nat_lt months (2 ^ 63) && nat_lt seconds (2 ^ 63)
    then Ok (record { months = months; seconds = seconds }) else Err OutOfRange

-- The sum of one or more counts.
abbrev pub ago_in : List Count → Option (Result Ago DateError)
ago_in [] = None
ago_in (count ∷ counts) = Some (total_of (months_in (count ∷ counts)) (seconds_in (count ∷ counts)))

-- How far back a text counts, if it counts back.
abbrev pub ago_of : List ℕ → Option (Result Ago DateError)
ago_of text = option_and_then ago_in (counts_of (words_of text))
