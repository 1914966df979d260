-- What the search for the beginning of a name has found.
use Rattle.std.specs.Prelude.{ℕ, Bool, true, false, Option, Some, None}
use Rattle.parse_options.specs.declared.named.Found.{Found}
use Rattle.parse_options.specs.declared.named.Found.TheVariants.{Nothing, One, Many}
use Rattle.parse_options.specs.declared.named.Meant.{Meant}

-- What is found, with one option more if its name begins so.
abbrev pub also : Found → (is_begun : Bool) → (place : ℕ) → (is_no : Bool) → Found
also found false place is_no = found
also Nothing true place is_no = One (record { place = place; is_no = is_no })
also (One m) true place is_no = Many
also Many true place is_no = Many

-- The option that was found, if no other one was found.
abbrev pub one_of : Found → Option Meant
one_of Nothing = None
one_of (One m) = Some m
one_of Many = None
