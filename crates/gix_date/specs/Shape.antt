-- Texts of a given shape, and words.
use Rattle.std.specs.Prelude.{ℕ, ◌==◌, Bool, true, false, ◌&&◌, ◌||◌, List, [], ◌∷◌, if◌then◌else◌}
use Rattle.std.specs.Char.{is_ascii_digit}
use Rattle.std.specs.Str.{str_eq_ignore_ascii_case}

-- Whether a mark stands for a byte: `0` for any digit, `+` for either sign, and every other mark for
-- itself.
abbrev pub fits : (mark byte : ℕ) → Bool
fits mark byte =
    if mark == 48 then is_ascii_digit byte
    else (if mark == 43 then (byte == 43) || (byte == 45) else byte == mark)

-- Whether a text has a shape such as `0000-00-00`, byte by byte.
unfoldable pub has_shape : (shape text : List ℕ) → Bool
has_shape [] [] = true
has_shape [] (b ∷ bs) = false
has_shape (m ∷ ms) [] = false
has_shape (m ∷ ms) (b ∷ bs) = fits m b && has_shape ms bs

-- Whether a text is a word, in any ASCII letter case.
abbrev pub is_word : (word text : List ℕ) → Bool
is_word word text = str_eq_ignore_ascii_case text word
