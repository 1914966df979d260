-- The bytes that have a meaning in a text, and words for finding them.
use Rattle.std.specs.Prelude.{ℕ, zero, suc, ◌+◌, ◌==◌, List, [], ◌∷◌, Option, Some, None, Bool, false, take, drop, if◌then◌else◌}
use Rattle.std.specs.List.{prefix_len}

-- The byte `~`.
abbrev pub tilde : ℕ
tilde = 126

-- The byte `^`.
abbrev pub caret : ℕ
caret = 94

-- The byte `:`.
abbrev pub colon : ℕ
colon = 58

-- The byte `.`.
abbrev pub dot : ℕ
dot = 46

-- The byte `@`.
abbrev pub at_sign : ℕ
at_sign = 64

-- The byte `{`.
abbrev pub brace : ℕ
brace = 123

-- The byte `\`.
abbrev pub backslash : ℕ
backslash = 92

-- The byte `-`.
abbrev pub dash : ℕ
dash = 45

-- The byte `+`.
abbrev pub plus : ℕ
plus = 43

-- The byte `/`.
abbrev pub slash : ℕ
slash = 47

-- The byte `!`.
abbrev pub bang : ℕ
bang = 33

-- The text begins with the byte mark.
abbrev pub starts_with : (mark : ℕ) → List ℕ → Bool
starts_with mark [] = false
starts_with mark (b ∷ rest) = b == mark

-- The bytes at the front of text that pass the test.
abbrev pub run_of : (ℕ → Bool) → List ℕ → List ℕ
run_of test text = take (prefix_len test text) text

-- The text after the bytes at its front that pass the test.
abbrev pub behind_run : (ℕ → Bool) → List ℕ → List ℕ
behind_run test text = drop (prefix_len test text) text

-- The least of the n places from k on that passes the test, or else k + n.
abbrev pub least_from : (test : ℕ → Bool) → (n k : ℕ) → ℕ
least_from test zero k = k
least_from test (suc n) k = if test k then k else least_from test n (k + 1)

-- The greatest place below n that passes the test.
abbrev pub greatest_below : (test : ℕ → Bool) → (n : ℕ) → Option ℕ
greatest_below test zero = None
greatest_below test (suc n) = if test n then Some n else greatest_below test n
