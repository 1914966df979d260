-- Revisions that begin with a colon (gitrevisions, ":/<text>", ":[<n>:]<path>").
use Rattle.std.specs.Prelude.{ℕ, ◌-◌, ◌==◌, ◌&&◌, List, [], ◌∷◌, Some, None, Bool, true, false, nat_le, if◌then◌else◌}
use Rattle.gix_spec.specs.declared.spec.parse.fault.Fault.TheVariants.{Unconsumed, LoneColon, LoneColonSlash, RegexPrefix}
use Rattle.gix_spec.specs.Pieces.{regex, index}
use Rattle.gix_spec.specs.Marks.{colon, dash, slash, bang}
use Rattle.gix_spec.specs.Part.{Part, piece, refusal}

-- A regex after `!-` is negated. An empty one is a fault that names whole.
abbrev pub negated_regex : (regex whole : List ℕ) → Part
negated_regex [] whole = refusal Unconsumed (Some whole)
negated_regex (b ∷ rest) whole = piece (regex (b ∷ rest) (b ∷ rest) true) []

-- After a `!`, a `-` negates the regex, and a second `!` belongs to the regex.
unfoldable pub banged : (after raw whole : List ℕ) → Part
banged [] raw whole = refusal RegexPrefix (Some raw)
banged (b ∷ rest) raw whole =
    if b == dash then negated_regex rest whole
    else if b == bang then piece (regex (b ∷ rest) (b ∷ rest) false) []
    else refusal RegexPrefix (Some raw)

-- The regex raw after `:/`. A `!` at its front has to begin `!-` or `!!`. Nothing after `:/` is a
-- fault.
unfoldable pub regex_at : (raw whole : List ℕ) → Part
regex_at [] whole = refusal LoneColonSlash None
regex_at (b ∷ rest) whole = if b == bang then banged rest (b ∷ rest) whole else piece (regex (b ∷ rest) (b ∷ rest) false) []

-- The byte b is a digit from 0 to 3.
abbrev pub is_stage : ℕ → Bool
is_stage b = nat_le 48 b && nat_le b 51

-- A path in the index, where whole is byte b, a colon and path. If b is a stage, path has this
-- stage. Otherwise whole has stage 0.
abbrev pub staged : (b : ℕ) → (path whole : List ℕ) → Part
staged b path whole = if is_stage b then piece (index path (b - 48)) [] else piece (index whole 0) []

-- A path in the index, where whole is byte b and rest. It has stage 0, unless it begins with a
-- stage and a colon.
abbrev pub index_at : (b : ℕ) → (rest whole : List ℕ) → Part
index_at b [] whole = piece (index whole 0) []
index_at b (c ∷ path) whole = if c == colon then staged b path whole else piece (index whole 0) []

-- The text after the colon that whole begins with: a regex after a slash, or a path in the index. A
-- colon with nothing after it is a fault.
unfoldable pub colon_form : (after whole : List ℕ) → Part
colon_form [] whole = refusal LoneColon None
colon_form (b ∷ rest) whole = if b == slash then regex_at rest whole else index_at b rest (b ∷ rest)
