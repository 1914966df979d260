-- What ids say: gitglossary, "object name"; git-rev-parse, "Specifying Revisions", `<sha1>`.
use Rattle.std.specs.Prelude.{◌≡◌, ℕ, List, ◌++◌, length, replicate, drop}
use Rattle.std.specs.declared.cmp.Ordering.{Ordering}
use Rattle.std.specs.Ordering.{nat_cmp}
use Rattle.std.specs.Cmp.Lexicographic.{slice_cmp}
use Rattle.hex.specs.Hex.{IsBytes}
use Rattle.gix_base.specs.Digits.{AreDigits, digits_of}
use Rattle.gix_base.specs.declared.hash.ObjectId.{ObjectId}

-- The 40 lower-case digits of an id.
abbrev pub id_text : ObjectId → List ℕ
id_text id = digits_of id.0

-- A text names an id if it has 40 bytes and each is a hex digit, in either letter case.
abbrev pub IsIdText : List ℕ → Type 0
IsIdText text = (length text ≡ 40) × AreDigits text

-- An id has 20 bytes, as each id of a program has.
abbrev pub IsId : ObjectId → Type 0
IsId id = (length id.0 ≡ 20) × IsBytes id.0

-- A text of digits, filled up to 40 with the digit 0.
abbrev pub padded : List ℕ → List ℕ
padded text = text ++ drop (length text) (replicate 40 48)

-- The order of ids: the first byte that differs decides.
abbrev pub id_order : ObjectId → ObjectId → Ordering
id_order a b = slice_cmp nat_cmp a.0 b.0
