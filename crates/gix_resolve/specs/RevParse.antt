-- How git reads a name: as an id, then as a ref, then as an abbreviated object name (git-rev-parse,
-- "Specifying Revisions"; gitrevisions, "<sha1>", "<describeOutput>" and "<refname>").
use Rattle.std.specs.Prelude.{ℕ, ◌+◌, ◌==◌, ◌&&◌, List, codes, length, drop, nat_lt, Bool, if◌then◌else◌, Option, Some, None, Result, Ok, Err}
use Rattle.std.specs.List.{list_all}
use Rattle.hex.specs.Hex.{is_hex_digit}
use Rattle.gix_revision.specs.Call.{Call, Hint, Target, find_ref, prefix, peel, object, valid_object, recursive_tag}
use Rattle.gix_revision.specs.DescribeText.{prefix_with}
use Rattle.gix_revision.specs.Graph.{Graphed}
use Rattle.gix_revision.specs.History.{History}
use Rattle.gix_revision.specs.Marks.{greatest_below}
use Rattle.gix_revision.specs.Pieces.{Piece}
use Rattle.gix_revision.specs.Prefix.{prefix_text}
use Rattle.gix_revision.specs.Reading.{begins}
use Rattle.gix_revision.specs.Types.Time.{Time}
use Rattle.gix_revision.specs.Types.ObjectKind.TheVariants.{Commit, Tree, Blob, Tag}
use Rattle.gix_revision.specs.Types.Spec.{Spec}
use Rattle.gix_revision.specs.Types.Error.{Error}
use Rattle.gix_base.specs.declared.hash.Prefix.{Prefix}
use Rattle.gix_resolve.specs.Known.{Known}
use Rattle.gix_resolve.specs.Resolved.{Way, IsStepBy, IsStepOrFaultBy, Ends, may_want_memory_by}
use Rattle.gix_resolve.specs.Steps.{by_name, by_prefix, by_target, after}
use Rattle.gix_resolve.specs.Walked.{WalkedBy}
use Rattle.gix_resolve.specs.declared.refusal.Refusal.{Refusal}
use Rattle.gix_resolve.specs.declared.refusal.Refusal.TheVariants.{NoName, NameFirst, CommitsAlone}
use Rattle.gix_resolve.specs.declared.state.State.{State}

-- Whether the name has `-g` at place k, and something before it.
abbrev pub is_id_mark : (name : List ℕ) → (k : ℕ) → Bool
is_id_mark name k = nat_lt 0 k && begins (codes "-g") (drop k name)

-- The text of the name after the `-g` at place k. Without a place, the whole name.
abbrev pub behind_mark : (name : List ℕ) → Option ℕ → List ℕ
behind_mark name (Some k) = drop (k + 2) name
behind_mark name None = name

-- The part of a name that may be an abbreviated object name: the text after its last `-g` that has
-- something before it, or else the whole name.
unfoldable pub digits_in : (name : List ℕ) → List ℕ
digits_in name = behind_mark name (greatest_below (is_id_mark name) (length name))

-- The attempt that prefix p makes, with no hint about the object.
abbrev pub attempt_by : Prefix → List ℕ × Option Hint
attempt_by p = (prefix_text p, None)

-- The state after an attempt: it is at the one known id that begins with the digits. Without an
-- attempt there is no such name.
abbrev pub by_attempt : Known → State → Option (List ℕ × Option Hint) → Result State Refusal
by_attempt known s None = Err NoName
by_attempt known s (Some p) = by_prefix known s p.0

-- The state at the one known id that begins with the digits. Unless these are 4 to 40 hex digits,
-- the refusal is `NoName`.
abbrev pub by_digits : Known → State → List ℕ → Result State Refusal
by_digits known s digits = by_attempt known s (prefix_with digits None)

-- The first of two results if it is a state, otherwise the second.
abbrev pub or_else : Result State Refusal → Result State Refusal → Result State Refusal
or_else (Ok u) otherwise = Ok u
or_else (Err why) otherwise = otherwise

-- The state after a name that is not a whole id: it is at the ref with exactly these bytes,
-- otherwise at the one id that begins with the digits in the name.
abbrev pub by_reference : Known → State → List ℕ → Result State Refusal
by_reference known s name = or_else (by_name known s name) (by_digits known s (digits_in name))

-- Whether the name is 40 hex digits.
abbrev pub is_whole_id : (name : List ℕ) → Bool
is_whole_id name = (length name == 40) && list_all is_hex_digit name

-- The state after a name. 40 hex digits are the known id with these digits. Any other name is a ref
-- or, if there is no such ref, the digits in the name.
abbrev pub by_rev_name : Known → State → List ℕ → Result State Refusal
by_rev_name known s name = if is_whole_id name then by_digits known s name else by_reference known s name

-- The target of a peel, with `<rev>^{object}` and `<rev>^{}` read as `<rev>^{commit}`.
abbrev pub commit_for : Target → Target
commit_for valid_object = object Commit
commit_for recursive_tag = object Commit
commit_for target = target

-- The state after a peel. A tree, a blob or a tag is refused with `CommitsAlone`. `<rev>^{object}`
-- and `<rev>^{}` are read as `<rev>^{commit}`.
abbrev pub by_rev_target : History → State → Target → Result State Refusal
by_rev_target h s (object Tree) = Err CommitsAlone
by_rev_target h s (object Blob) = Err CommitsAlone
by_rev_target h s (object Tag) = Err CommitsAlone
by_rev_target h s target = by_target h s (commit_for target)

-- The state after a call of `rev_parse`, or why there is none. Every prefix is refused, and the
-- parser then asks for the name.
abbrev pub after_names : Known → History → State → Call → Result State Refusal
after_names known h s (find_ref name) = by_rev_name known s name
after_names known h s (prefix digits hint) = Err NameFirst
after_names known h s (peel target) = by_rev_target h s target
after_names known h s c = after known h s c

-- The way of `rev_parse`: names come before abbreviated object names.
abbrev pub names_first : Known → History → Way
names_first known h = record { after = after_names known h; demand = commit_for }

-- The answer r is what the text means by the steps of `rev_parse` over a source that does not fail
-- (git-rev-parse, "Specifying Revisions").
abbrev pub RevParsed : (text : List ℕ) → Time → Known → History → Result Spec Error → Type 0
RevParsed text now known h r = Ends (IsStepBy (names_first known h)) text now r

-- The answer r is what the text means by the steps of `rev_parse` over a source that may fail. If
-- the source failed, r is the fault of the call that asked it.
abbrev pub RevParsedOrFault : (text : List ℕ) → Time → Known → History → Result Spec Error → Type 0
RevParsedOrFault text now known h r = Ends (IsStepOrFaultBy (names_first known h)) text now r

-- The answer r comes of a run of `rev_parse` that leads from the graph m before the text to the
-- graph n after it.
abbrev pub RevWalkedTo : {S T : Type 0} → (text : List ℕ) → Time → Known → History → Graphed S T → Result Spec Error → Graphed S T → Type 0
RevWalkedTo text now known h m r n = WalkedBy (names_first known h) h text now m r n

-- Whether an allocation may fail for pieces of a text in `rev_parse`: for a step, also in `^-n`,
-- for `^{commit}`, `^{object}` and `^{}`, or for an escape.
abbrev pub rev_may_want_memory : List Piece → Bool
rev_may_want_memory = may_want_memory_by commit_for
