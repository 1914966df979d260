-- Names that `git describe` prints (gitrevisions, "<describeOutput>").
use Rattle.std.specs.Prelude.{ℕ, ◌+◌, ◌==◌, ◌&&◌, not, List, Option, Some, None, Bool, length, take, drop, nat_le, slice_index, if◌then◌else◌}
use Rattle.std.specs.List.{list_all, list_any}
use Rattle.std.specs.Str.{str_to_ascii_lowercase}
use Rattle.hex.specs.Hex.{is_hex_digit}
use Rattle.gix_spec.specs.Call.{Hint, must_be_commit, describe_anchor}
use Rattle.gix_spec.specs.Marks.{dash, starts_with, run_of, greatest_below}
use Rattle.gix_spec.specs.Number.{number_of}

-- The arguments of a prefix call: its digits in lower case, and the hint.
abbrev pub Attempt : Type 0
Attempt = List ℕ × Option Hint

-- The prefix call for 4 to 40 hex digits with a hint. Other texts have none.
abbrev pub prefix_with : (digits : List ℕ) → Option Hint → Option Attempt
prefix_with digits hint =
    if list_all is_hex_digit digits && nat_le 4 (length digits) && nat_le (length digits) 40 then Some (str_to_ascii_lowercase digits, hint)
    else None

-- The byte b is not a dash.
abbrev pub is_no_dash : ℕ → Bool
is_no_dash b = not (b == dash)

-- The place of the last dash of text.
unfoldable pub last_dash : (text : List ℕ) → Option ℕ
last_dash text = greatest_below (λ k. slice_index text k == dash) (length text)

-- The token at the front of a text: its bytes before the first dash.
abbrev pub token_of : List ℕ → List ℕ
token_of text = run_of is_no_dash text

-- The token at the front of text is a `g` and hex digits.
unfoldable pub is_id_token : List ℕ → Bool
is_id_token text = starts_with 103 text && list_all is_hex_digit (token_of (drop 1 text))

-- The place of the last dash that a token of a `g` and hex digits follows.
unfoldable pub last_id_dash : (text : List ℕ) → Option ℕ
last_id_dash text = greatest_below (λ k. (slice_index text k == dash) && is_id_token (drop (k + 1) text)) (length text)

-- The hint that the object is a commit; with a number, that it is so many commits ahead of
-- ref_name.
abbrev pub hint_by : (ref_name : List ℕ) → Option ℕ → Hint
hint_by ref_name (Some generation) = describe_anchor ref_name generation
hint_by ref_name None = must_be_commit

-- The hint of the text before the dash of the id, whose last dash is at place k. If a number
-- follows that dash, the hint has the number and the name before the dash.
abbrev pub hint_at : (before : List ℕ) → Option ℕ → Hint
hint_at before None = must_be_commit
hint_at before (Some k) = hint_by (take k before) (number_of (drop (k + 1) before))

-- The hint of the text before the dash of the id. If it is a name, a dash and a number, the hint
-- names them. Otherwise the id is a commit.
unfoldable pub hint_of_text : (before : List ℕ) → Hint
hint_of_text before = hint_at before (last_dash before)

-- The short form `HEX-WORD`: the text before the last dash, if it is 4 to 40 hex digits, without a
-- hint.
abbrev pub short_form : (text : List ℕ) → Option ℕ → Option Attempt
short_form text None = None
short_form text (Some k) = prefix_with (take k text) None

-- The long form has a dash, a `g` and hex digits, and before them a token that is not empty. Tokens
-- after the digits are ignored. There is no call if the digits are not 4 to 40. A text that is not
-- of the long form may be of the short form.
abbrev pub describe_form : (text : List ℕ) → Option ℕ → Option Attempt
describe_form text None = short_form text (last_dash text)
describe_form text (Some k) =
    if list_any is_no_dash (take k text) then prefix_with (token_of (drop (k + 2) text)) (Some (hint_of_text (take k text)))
    else short_form text (last_dash text)

-- The prefix call that is tried for a describe text.
unfoldable pub describe_attempt : (text : List ℕ) → Option Attempt
describe_attempt text = describe_form text (last_id_dash text)
