-- The time of a commit as git's walks read it: git-commit-tree, "DATE FORMATS" ("Git internal
-- format"). Git reads malformed lines as its function parse_commit_date and C's strtoumax say.
use Rattle.std.specs.Prelude.{ℕ, ◌+◌, ◌-◌, ◌*◌, ◌%◌, ◌^◌, ◌==◌, Bool, ◌&&◌, ◌||◌, List, [], ◌∷◌, length, drop, slice_index, codes, cond, min, nat_lt, nat_le, if◌then◌else◌}
use Rattle.std.specs.Char.{is_ascii_digit}
use Rattle.std.specs.List.{prefix_len}
use Rattle.gix_object.specs.Lines.{begins, after, line_feed}

-- Whether a byte is white space in C: a space, or one of the bytes 9 to 13. The line feed is one of
-- these.
abbrev pub is_space : ℕ → Bool
is_space b = (b == 32) || (nat_le 9 b && nat_le b 13)

-- The text without the white space at its front.
unfoldable pub without_space : List ℕ → List ℕ
without_space text = drop (prefix_len is_space text) text

-- The number that the digits of n and then the digits at the front of a text write.
unfoldable pub number_after : ℕ → List ℕ → ℕ
number_after n [] = n
number_after n (b ∷ bs) = cond (is_ascii_digit b) (number_after (n * 10 + (b - 48)) bs) n

-- The number that the digits at the front of the text write; 0 if the text begins with no digit.
abbrev pub number_of : List ℕ → ℕ
number_of text = number_after 0 text

-- The number n, or 2^64 - 1 if n is greater.
abbrev pub capped : ℕ → ℕ
capped n = min n (2 ^ 64 - 1)

-- What C reads if a minus is before the number n: 2^64 - n, modulo 2^64. If n is 2^64 or more, it
-- is 2^64 - 1.
abbrev pub negated : ℕ → ℕ
negated n = cond (nat_lt n (2 ^ 64)) ((2 ^ 64 - n) % 2 ^ 64) (2 ^ 64 - 1)

-- The number at the front of the text, before which a plus or a minus may be.
unfoldable pub signed_at : List ℕ → ℕ
signed_at text =
    if slice_index text 0 == 45 then negated (number_of (drop 1 text))
    else capped (number_of (if slice_index text 0 == 43 then drop 1 text else text))

-- The number at the front of the text, after white space. It is 0 if the text has no line feed, or
-- ends with its first one.
unfoldable pub date_at : List ℕ → ℕ
date_at text = if nat_lt 0 (length (after line_feed text)) then signed_at (without_space text) else 0

-- The date after the first `>` of the text, if the text begins with `committer`; otherwise 0.
unfoldable pub committed_at : List ℕ → ℕ
committed_at text = if begins (codes "committer") text then date_at (after 62 text) else 0

-- The date of the committer in the second line of the text, if the text begins with `author`;
-- otherwise 0.
unfoldable pub seconds_at : List ℕ → ℕ
seconds_at text = if begins (codes "author") text then committed_at (after line_feed text) else 0
