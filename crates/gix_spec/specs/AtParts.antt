-- Texts in the braces after an `@` (gitrevisions, "<refname>@{<n>}", "@{-<n>}",
-- "<refname>@{<date>}", "@{upstream}" and "@{push}").
use Rattle.std.specs.Prelude.{ℕ, ◌==◌, List, [], ◌∷◌, Option, Some, None, Result, Ok, Err, nat_lt, pos, if◌then◌else◌}
use Rattle.gix_base.specs.declared.date.Time.{Time}
use Rattle.gix_date.specs.declared.date.error.DateError.{DateError}
use Rattle.gix_date.specs.Date.{date_of}
use Rattle.gix_spec.specs.declared.spec.parse.delegate.ReflogLookup.{ReflogLookup}
use Rattle.gix_spec.specs.declared.spec.parse.delegate.ReflogLookup.TheVariants.{Entry, Date}
use Rattle.gix_spec.specs.declared.spec.parse.delegate.SiblingBranch.{SiblingBranch}
use Rattle.gix_spec.specs.declared.spec.parse.fault.Fault.TheVariants.{NegativeZero, NegativeEntry}
use Rattle.gix_spec.specs.Pieces.{branch, reflog, sibling, date}
use Rattle.gix_spec.specs.Number.{Signed, minus, plain, signed_of}
use Rattle.gix_spec.specs.Part.{Part, piece, refusal}
use Rattle.gix_spec.specs.Sibling.{sibling_of}
use Rattle.gix_spec.specs.Braces.{Braced, in_braces}

-- In this file, own is the name of the revision, which may be empty, and x is a pair of braces.

-- The piece is the branch that was checked out n branches ago. After a name, it is a fault.
abbrev pub branch_at : (own : List ℕ) → (n : ℕ) → Braced → Part
branch_at [] n x = piece (branch n x.raw) x.rest
branch_at (b ∷ name) n x = refusal NegativeEntry (Some x.raw)

-- A number n below 100000000 is the number of a reflog entry. From there on, n is a date in seconds
-- since 1970.
abbrev pub lookup_of : ℕ → ReflogLookup
lookup_of n = if nat_lt n 100000000 then Entry n else Date (record { seconds = pos n; offset = pos 0 })

-- A number with a minus sign is a branch, and one without is a reflog look-up. A minus sign before
-- zeros is a fault.
abbrev pub number_at : (own : List ℕ) → Signed → Braced → Part
number_at own (minus n) x = if n == 0 then refusal NegativeZero (Some x.raw) else branch_at own n x
number_at own (plain n) x = piece (reflog (lookup_of n) own x.raw) x.rest

-- The time of a date that was read, or None if the text is not a date.
abbrev pub time_of : Result Time DateError → Option Time
time_of (Ok time) = Some time
time_of (Err e) = None

-- A text that names a sibling branch is that branch. Every other text is read as a date.
abbrev pub word_at : (own : List ℕ) → Option SiblingBranch → Braced → Part
word_at own (Some which) x = piece (sibling which own x.raw) x.rest
word_at own None x = piece (date (λ now. time_of (date_of x.meant now)) own x.raw) x.rest

-- A text in the braces is a number if it says one. Every other text is a word.
abbrev pub inside_at : (own : List ℕ) → Option Signed → Braced → Part
inside_at own (Some number) x = number_at own number x
inside_at own None x = word_at own (sibling_of x.meant) x

-- The braces after an `@`, where text begins with the opening brace.
unfoldable pub at_braces : (own text : List ℕ) → Part
at_braces own text = in_braces text (λ x. inside_at own (signed_of x.meant) x)
