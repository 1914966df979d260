-- The name of a revision, and an `@` after it (gitrevisions, "<sha1>", "<describeOutput>",
-- "<refname>" and "@").
use Rattle.std.specs.Prelude.{ℕ, zero, suc, ◌==◌, List, [], ◌∷◌, Option, Some, None, take, drop, if◌then◌else◌}
use Rattle.gix_spec.specs.declared.spec.parse.fault.Fault.TheVariants.{AtWithoutBraces}
use Rattle.gix_spec.specs.Pieces.{head, name}
use Rattle.gix_spec.specs.Marks.{at_sign, brace, starts_with}
use Rattle.gix_spec.specs.Cut.{cut_of}
use Rattle.gix_spec.specs.DescribeText.{Attempt, prefix_with, describe_attempt}
use Rattle.gix_spec.specs.AtParts.{at_braces}
use Rattle.gix_spec.specs.Part.{Part, nothing, piece, refusal, followed}

-- The prefix call that is tried first for a name, if the whole name is 4 to 40 hex digits or it is
-- a describe text.
abbrev pub attempt_by : Option Attempt → (text : List ℕ) → Option Attempt
attempt_by (Some whole) text = Some whole
attempt_by None text = describe_attempt text

-- The prefix call that is tried first for the name text.
unfoldable pub attempt_of : (text : List ℕ) → Option Attempt
attempt_of text = attempt_by (prefix_with text None) text

-- What an `@` after the name own asks for. Without a brace after the `@`, it is the fault
-- `AtWithoutBraces`.
abbrev pub behind_at : (own after whole : List ℕ) → Part
behind_at own after whole = if starts_with brace after then at_braces own after else refusal AtWithoutBraces (Some whole)

-- The `@` after the name own, if text begins with one.
unfoldable pub at_part : (own text : List ℕ) → Part
at_part own [] = nothing []
at_part own (b ∷ after) = if b == at_sign then behind_at own after (b ∷ after) else nothing (b ∷ after)

-- An `@` without a name before it and without a brace after it is HEAD.
abbrev pub head_at : (after : List ℕ) → Part
head_at after = if starts_with brace after then at_braces [] after else piece head after

-- The front of a revision without a name.
unfoldable pub without_name : (text : List ℕ) → Part
without_name [] = nothing []
without_name (b ∷ after) = if b == at_sign then head_at after else nothing (b ∷ after)

-- The part that is the first n bytes of text, as a name.
abbrev pub named : (text : List ℕ) → (n : ℕ) → Part
named text n = piece (name (take n text) text (attempt_of (take n text))) (drop n text)

-- The name of n bytes, and an `@` after it.
abbrev pub anchor_by : (text : List ℕ) → (n : ℕ) → Part
anchor_by text zero = without_name text
anchor_by text (suc n) = followed (named text (suc n)) (at_part (take (suc n) text))

-- The name at the front of text, and an `@` after it.
unfoldable pub anchor_at : (text : List ℕ) → Part
anchor_at text = anchor_by text (cut_of text)
