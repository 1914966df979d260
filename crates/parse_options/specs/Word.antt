-- What a word is, as the code tells it.
use Rattle.std.specs.Prelude.{◌≡◌, ◌≢◌, ℕ, List, ◌∷◌, ◌++◌, codes}
use Rattle.parse_options.specs.declared.sorts.Sort.{Sort}
use Rattle.parse_options.specs.declared.sorts.Sort.TheVariants.{Argument, End, Long, Short}
use Rattle.parse_options.specs.Line.{IsArgument, EndsOptions}

-- A word is an argument, the end of the options, a long option or short options.
abbrev pub IsWord : List ℕ → Sort → Type 0
IsWord word Argument = IsArgument word
IsWord word End = EndsOptions word
IsWord word (Long text) = (EndsOptions word → ⊥) × (word ≡ codes "--" ++ text.now)
IsWord word Short = (letter : ℕ) × (letters : List ℕ) × (word ≡ codes "-" ++ (letter ∷ letters)) × (letter ≢ 45)
