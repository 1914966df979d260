-- The lines of a file, and the ids in them.
use Rattle.std.specs.Prelude.{ℕ, List, [], ◌∷◌, Bool, ◌==◌, ◌&&◌, cond, Option, None, Some, length}
use Rattle.std.specs.List.{slice_split, list_all}
use Rattle.hex.specs.Hex.{is_hex_digit}
use Rattle.gix_base.specs.Digits.{bytes_of}

-- The parts of a text between the bytes at.
abbrev pub parts : ℕ → List ℕ → List (List ℕ)
parts at text = slice_split (λ b. b == at) text

-- The parts of what comes after a byte at. There are none if nothing comes after one.
abbrev pub parts_after : ℕ → Option (List ℕ) → List (List ℕ)
parts_after at None = []
parts_after at (Some rest) = parts at rest

-- What comes after the first byte of a text, if there is one.
abbrev pub tail : List ℕ → Option (List ℕ)
tail [] = None
tail (b ∷ rest) = Some rest

-- The first of some parts; an empty one if there is none.
abbrev pub first_part : List (List ℕ) → List ℕ
first_part [] = []
first_part (part ∷ rest) = part

-- What comes before the first zero byte of a text; the whole text if it has none.
abbrev pub before_zero : List ℕ → List ℕ
before_zero text = first_part (parts 0 text)

-- The lines of a file: its parts between line feeds.
abbrev pub lines : List ℕ → List (List ℕ)
lines bytes = parts 10 bytes

-- A text is the 40 hex digits of an id, in either letter case.
abbrev pub is_id : List ℕ → Bool
is_id text = (length text == 40) && list_all is_hex_digit text

-- The 20 bytes of the id whose digits a text is (gitglossary, "object name").
abbrev pub id_of : List ℕ → Option (List ℕ)
id_of text = cond (is_id text) (Some (bytes_of text)) None
