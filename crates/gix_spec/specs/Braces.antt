-- Texts in braces (gitrevisions, "<rev>^{<type>}", "<rev>^{/<text>}" and "<refname>@{<date>}").
use Rattle.std.specs.Prelude.{ℕ, zero, suc, ◌+◌, ◌-◌, ◌==◌, ◌&&◌, ◌||◌, not, cond, List, [], ◌∷◌, ◌++◌, Option, Some, None, Bool, true, false, length, nat_lt, take, drop, slice_index, if◌then◌else◌}
use Rattle.gix_spec.specs.declared.spec.parse.fault.Fault.TheVariants.{UnclosedBrace}
use Rattle.gix_spec.specs.Pieces.{unescaped}
use Rattle.gix_spec.specs.Marks.{least_from}
use Rattle.gix_spec.specs.Part.{Part, refusal}

-- In this file, the bytes 123 and 125 are `{` and `}`, and 92 is a backslash.

-- A backslash can escape byte b if b is a brace or a backslash.
abbrev pub is_special : ℕ → Bool
is_special b = (b == 123) || (b == 125) || (b == 92)

-- The byte before place k is a backslash that is not itself after such a backslash.
abbrev pub follows_escape : (text : List ℕ) → (k : ℕ) → Bool
follows_escape text zero = false
follows_escape text (suc k) = (slice_index text k == 92) && not (follows_escape text k)

-- The byte at place k is escaped: it can be, and an escape precedes it.
abbrev pub is_escaped : (text : List ℕ) → (k : ℕ) → Bool
is_escaped text k = is_special (slice_index text k) && follows_escape text k

-- The number of the first n places of text with the byte mark that is not escaped.
abbrev pub counted : (mark : ℕ) → (text : List ℕ) → (n : ℕ) → ℕ
counted mark text zero = 0
counted mark text (suc n) = counted mark text n + cond ((slice_index text n == mark) && not (is_escaped text n)) 1 0

-- As many braces close as open in the first n + 1 places of text.
unfoldable pub is_level : (text : List ℕ) → (n : ℕ) → Bool
is_level text n = counted 123 text (suc n) == counted 125 text (suc n)

-- The place where the pair at the front of text closes: the least place at which the braces are
-- level. If the pair never closes, the length of text.
unfoldable pub close_of : (text : List ℕ) → ℕ
close_of text = least_from (is_level text) (length text) 0

-- One of the first n places of text is escaped.
abbrev pub has_escape : (text : List ℕ) → (n : ℕ) → Bool
has_escape text zero = false
has_escape text (suc n) = has_escape text n || is_escaped text n

-- The n bytes after the first byte of text, without each backslash that escapes the next byte.
abbrev pub meant_of : (text : List ℕ) → (n : ℕ) → List ℕ
meant_of text zero = []
meant_of text (suc k) = meant_of text k ++ cond (is_escaped text (k + 2)) [] (slice_index text (k + 1) ∷ [])

-- The contents of a pair of braces: raw is the text as it is written, meant is the text without
-- escapes, escapes says whether the pair has an escape, and rest is the text after the pair.
pub record Braced : Type 0 where
  pub raw : List ℕ
  pub meant : List ℕ
  pub escapes : Bool
  pub rest : List ℕ

-- The pair of braces from the front of text to place n.
abbrev pub braced_to : (text : List ℕ) → (n : ℕ) → Braced
braced_to text n =
    record { raw = take (n - 1) (drop 1 text); meant = meant_of text (n - 1); escapes = has_escape text (n + 1); rest = drop (n + 1) text }

-- The pair of braces at the front of text, if it closes.
abbrev pub braced_at : (text : List ℕ) → Option Braced
braced_at text = if nat_lt (close_of text) (length text) then Some (braced_to text (close_of text)) else None

-- The part p that was read in braces. If the braces have an escape, the piece unescaped comes
-- first, since removing escapes takes memory.
abbrev pub behind_escapes : (escapes : Bool) → Part → Part
behind_escapes true p = record { pieces = unescaped ∷ p.pieces; rest = p.rest; way = p.way }
behind_escapes false p = p

-- The part that reading finds in a pair of braces. A pair that does not close is a fault.
abbrev pub braced_by : Option Braced → (text : List ℕ) → (reading : Braced → Part) → Part
braced_by None text reading = refusal UnclosedBrace (Some text)
braced_by (Some x) text reading = behind_escapes x.escapes (reading x)

-- The part that reading finds in the pair of braces at the front of text.
unfoldable pub in_braces : (text : List ℕ) → (reading : Braced → Part) → Part
in_braces text reading = braced_by (braced_at text) text reading
