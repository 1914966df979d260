-- The steps after a name (gitrevisions, "<rev>~<n>", "<rev>^<n>", "<rev>^{<type>}", "<rev>^@",
-- "<rev>^!", "<rev>^-<n>" and "<rev>:<path>").
use Rattle.std.specs.Prelude.{ℕ, zero, suc, ◌==◌, ◌^◌, ◌||◌, List, [], ◌∷◌, Option, Some, None, Bool, length, nat_lt, if◌then◌else◌}
use Rattle.std.specs.Char.{is_ascii_digit}
use Rattle.gix_base.specs.declared.object.Kind.TheVariants.{Commit}
use Rattle.gix_spec.specs.declared.spec.Kind.TheVariants.{ExcludeReachableFromParents, IncludeReachableFromParents}
use Rattle.gix_spec.specs.declared.spec.parse.delegate.Traversal.TheVariants.{NthParent, NthAncestor}
use Rattle.gix_spec.specs.declared.spec.parse.fault.Fault.TheVariants.{NegativeZero, Sign, Number}
use Rattle.gix_spec.specs.Call.{object}
use Rattle.gix_spec.specs.Pieces.{step, peel, path, closer, without_parent}
use Rattle.gix_spec.specs.Marks.{tilde, caret, colon, at_sign, brace, dash, plus, bang, starts_with, run_of, behind_run}
use Rattle.gix_spec.specs.Number.{number_of}
use Rattle.gix_spec.specs.Part.{Part, nothing, piece, closing, refusal, followed}
use Rattle.gix_spec.specs.Targets.{target_braces}

-- In this file, after is the text after a `~` or a `^`, run is the digits (and minus signs) at its
-- front, and rest is the text after run.

-- The step `~n`. A number that a usize cannot hold is the fault `Number`.
abbrev pub ancestor_by : (run rest after : List ℕ) → Option ℕ → Part
ancestor_by run rest after None = refusal Number (Some run)
ancestor_by run rest after (Some n) = piece (step (NthAncestor n) after) rest

-- The steps `~` and `~n`. The step `~` is `~1`.
abbrev pub ancestor_run : (run rest after : List ℕ) → Part
ancestor_run [] rest after = piece (step (NthAncestor 1) after) after
ancestor_run (b ∷ digits) rest after = ancestor_by (b ∷ digits) rest after (number_of (b ∷ digits))

-- The text after a `~`. A sign is the fault `Sign`.
unfoldable pub ancestor_at : (after : List ℕ) → Part
ancestor_at after =
    if starts_with plus after || starts_with dash after then refusal Sign (Some after)
    else ancestor_run (run_of is_ascii_digit after) (behind_run is_ascii_digit after) after

-- The step `^n`. The step `^0` is the commit itself. If n is 2^63 or more, it is the fault
-- `Number`.
abbrev pub parent_number : (run rest after : List ℕ) → (n : ℕ) → Part
parent_number run rest after n =
    if n == 0 then piece (peel (object Commit) after) rest
    else if nat_lt n (2 ^ 63) then piece (step (NthParent n) after) rest
    else refusal Number (Some run)

-- The step `^n`. A run that says no number is the fault `Number`.
abbrev pub parent_by : (run rest after : List ℕ) → Option ℕ → Part
parent_by run rest after None = refusal Number (Some run)
parent_by run rest after (Some n) = parent_number run rest after n

-- The closer `^-n`. If n is 0, it is the fault `NegativeZero`. If n is 2^63 or more, it is the
-- fault `Number`.
abbrev pub without_number : (run rest after : List ℕ) → (n : ℕ) → Part
without_number run rest after n =
    if n == 0 then refusal NegativeZero (Some run)
    else if nat_lt n (2 ^ 63) then closing (without_parent n after rest) rest
    else refusal Number (Some run)

-- The closer `^-n`. A run that says no number is the fault `Number`.
abbrev pub without_by : (run rest after : List ℕ) → Option ℕ → Part
without_by run rest after None = refusal Number (Some run)
without_by run rest after (Some n) = without_number run rest after n

-- The closers `^-` and `^-n`, where digits is run without its minus sign. The closer `^-` is `^-1`.
unfoldable pub without_at : (digits run rest after : List ℕ) → Part
without_at [] run rest after = closing (without_parent 1 after rest) rest
without_at (b ∷ digits) run rest after = without_by run rest after (number_of (b ∷ digits))

-- A `^`, and the run after it. Without a run it is the step to the first parent.
unfoldable pub run_at : (run rest after : List ℕ) → Part
run_at [] rest after = piece (step (NthParent 1) after) after
run_at (b ∷ digits) rest after =
    if b == dash then without_at digits (b ∷ digits) rest after else parent_by (b ∷ digits) rest after (number_of (b ∷ digits))

-- The byte b is a digit or a minus sign.
abbrev pub is_digit_or_minus : ℕ → Bool
is_digit_or_minus b = is_ascii_digit b || (b == dash)

-- The text after a `^` that begins with byte b: braces, `!`, `@`, or a run. A plus sign is the
-- fault `Sign`.
abbrev pub marked_parent : (b : ℕ) → (rest after : List ℕ) → Part
marked_parent b rest after =
    if b == plus then refusal Sign (Some after)
    else if b == brace then target_braces after
    else if b == bang then closing (closer ExcludeReachableFromParents rest) rest
    else if b == at_sign then closing (closer IncludeReachableFromParents rest) rest
    else run_at (run_of is_digit_or_minus after) (behind_run is_digit_or_minus after) after

-- The text after a `^`. If it is empty, it is the step to the first parent.
unfoldable pub parent_at : (after : List ℕ) → Part
parent_at [] = piece (step (NthParent 1) []) []
parent_at (b ∷ rest) = marked_parent b rest (b ∷ rest)

-- The step at the front of text, which begins with byte b: `~`, `^` or `:`. A path is all text
-- after a colon.
abbrev pub marked_step : (b : ℕ) → (after text : List ℕ) → Part
marked_step b after text =
    if b == tilde then ancestor_at after
    else if b == caret then parent_at after
    else if b == colon then piece (path after) []
    else nothing text

-- The step at the front of text, if text begins with one.
unfoldable pub step_at : (text : List ℕ) → Part
step_at [] = nothing []
step_at (b ∷ after) = marked_step b after (b ∷ after)

-- Steps at the front of text, one after another, at most as many as bytes.
unfoldable pub steps_at : (bytes : ℕ) → (text : List ℕ) → Part
steps_at zero text = nothing text
steps_at (suc n) text = followed (step_at text) (steps_at n)

-- All steps at the front of text, one after another.
abbrev pub navigation : (text : List ℕ) → Part
navigation text = steps_at (length text) text
