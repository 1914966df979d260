-- The words of a text.
use Rattle.std.specs.Prelude.{ℕ, ◌==◌, Bool, true, false, not, ◌||◌, List, [], ◌∷◌, Option, Some, None, if◌then◌else◌}
use Rattle.std.specs.List.{prefix_len}

-- A space or a dot separates words.
abbrev pub is_gap : ℕ → Bool
is_gap byte = (byte == 32) || (byte == 46)

-- Words, the first of which begins with a byte.
abbrev pub begin_with : ℕ → List (List ℕ) → List (List ℕ)
begin_with byte [] = (byte ∷ []) ∷ []
begin_with byte (word ∷ words) = (byte ∷ word) ∷ words

-- The words of a text, which one or more spaces or dots separate. The flag says that one comes
-- before the text. Without the flag, a text that begins with one has an empty word in front. A text
-- that ends with one has an empty word at its end.
unfoldable pub words_from : (parted : Bool) → List ℕ → List (List ℕ)
words_from parted [] = [] ∷ []
words_from true (b ∷ bs) = if is_gap b then words_from true bs else begin_with b (words_from false bs)
words_from false (b ∷ bs) = if is_gap b then [] ∷ words_from true bs else begin_with b (words_from false bs)

-- The words of a whole text.
abbrev pub words_of : List ℕ → List (List ℕ)
words_of text = words_from false text

-- The number of bytes before the first one that separates words.
abbrev pub word_length : List ℕ → ℕ
word_length text = prefix_len (λ byte. not (is_gap byte)) text

-- The words of the text that is left, if one is left.
abbrev pub words_left : Option (List ℕ) → List (List ℕ)
words_left None = []
words_left (Some text) = words_of text
