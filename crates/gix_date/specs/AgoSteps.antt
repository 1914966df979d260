-- How the body counts back, for its proof only: count by count, with what the counts before came to.
use Rattle.std.specs.Prelude.{ℕ, ◌+◌, ◌*◌, ◌^◌, List, [], ◌∷◌, codes, Option, Some, None, option_map, option_and_then, Result, Ok, Err, nat_lt, if◌then◌else◌}
use Rattle.gix_date.specs.declared.date.error.DateError.{DateError}
use Rattle.gix_date.specs.declared.date.error.DateError.TheVariants.{OutOfRange}
use Rattle.gix_date.specs.declared.date.ago.Ago.{Ago}
use Rattle.gix_date.specs.Shape.{is_word}
use Rattle.gix_date.specs.Numerals.{is_number, number_of}
use Rattle.gix_date.specs.DateSteps.{result_and_then}
use Rattle.gix_date.specs.Ago.{unit_of}

-- A total, which must not pass the greatest `i64`.
unfoldable pub total : ℕ → Result ℕ DateError
total n = if nat_lt n (2 ^ 63) then Ok n else Err OutOfRange

-- A number of a unit more.
unfoldable pub more : Ago → (number : ℕ) → (each : Ago) → Result Ago DateError
more ago number each =
    result_and_then (total (ago.months + number * each.months)) (λ months.
    result_and_then (total (ago.seconds + number * each.seconds)) (λ seconds.
    Ok (record { months = months; seconds = seconds })))

-- Nothing yet, or the sum of the counts before.
abbrev pub so_far : Option (Result Ago DateError) → Result Ago DateError
so_far None = Ok (record { months = 0; seconds = 0 })
so_far (Some sum) = sum

-- The sum of the counts before, and a number of a unit more.
unfoldable pub with_more : Option (Result Ago DateError) → (number : ℕ) → (each : Ago) → Result Ago DateError
with_more sum number each = result_and_then (so_far sum) (λ ago. more ago number each)

-- The sum of the counts before with one more count, if two words are a number and a unit.
unfoldable pub with_count : Option (Result Ago DateError) → (number unit : List ℕ) → Option (Result Ago DateError)
with_count sum number unit =
    if is_number number
    then option_map (λ each. with_more sum (number_of number) each) (unit_of unit) else None

-- The sum after some more words: counts, then `ago`.
unfoldable pub ago_from : (sum : Option (Result Ago DateError)) → List (List ℕ) → Option (Result Ago DateError)
ago_from sum [] = None
ago_from sum (word ∷ []) = if is_word (codes "ago") word then sum else None
ago_from sum (number ∷ unit ∷ words) = option_and_then (λ s. ago_from (Some s) words) (with_count sum number unit)
