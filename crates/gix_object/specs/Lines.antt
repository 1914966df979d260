-- Bytes and lines at the front of an object's content: git-commit-tree, "DESCRIPTION"; git-mktag,
-- "TAG FORMAT".
use Rattle.std.specs.Prelude.{◌≡◌, ℕ, ◌+◌, ◌<◌, ◌==◌, Bool, true, ◌&&◌, List, length, take, drop, slice_index, nat_eq, nat_lt}
use Rattle.std.specs.List.{position_or_len, starts_with}
use Rattle.gix_base.specs.Hash.{IsIdText}
use Rattle.gix_base.specs.Digits.{bytes_of}
use Rattle.gix_base.specs.declared.hash.ObjectId.{ObjectId}

-- The line feed, the byte that ends a line.
abbrev pub line_feed : ℕ
line_feed = 10

-- Whether text begins with word and is longer.
unfoldable pub begins : List ℕ → List ℕ → Bool
begins word text = nat_lt (length word) (length text) && starts_with nat_eq text word

-- The place of the first byte of this value in text; the length of text if it has none.
unfoldable pub place_of : ℕ → List ℕ → ℕ
place_of byte text = position_or_len (λ b. b == byte) text

-- A byte of this value is in text.
abbrev pub Occurs : ℕ → List ℕ → Type 0
Occurs byte text = place_of byte text < length text

-- The bytes of text before the first byte of this value; all of text if it has none.
abbrev pub before : ℕ → List ℕ → List ℕ
before byte text = take (place_of byte text) text

-- The bytes of text after the first byte of this value; no bytes if it has none.
abbrev pub after : ℕ → List ℕ → List ℕ
after byte text = drop (place_of byte text + 1) text

-- The id that the 40 digits from this place on say.
unfoldable pub id_at : List ℕ → ℕ → ObjectId
id_at text at = record { 0 = bytes_of (take 40 (drop at text)) }

-- The text begins with a line of word and the 40 digits of an id, in either letter case, and does
-- not end with this line.
pub record IsIdLine (word text : List ℕ) : Type 0 where
  pub more : length word + 41 < length text
  pub begins : begins word text ≡ true
  pub digits : IsIdText (take 40 (drop (length word) text))
  pub ended : slice_index text (length word + 40) ≡ line_feed
