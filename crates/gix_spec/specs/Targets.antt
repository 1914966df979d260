-- Texts in the braces after a `^` (gitrevisions, "<rev>^{<type>}", "<rev>^{}" and
-- "<rev>^{/<text>}").
use Rattle.std.specs.Prelude.{ℕ, ◌==◌, List, [], ◌∷◌, codes, Option, Some, None, Bool, true, false, drop, nat_eq, if◌then◌else◌}
use lib.Pointwise.{pointwise}
use Rattle.gix_base.specs.declared.object.Kind.TheVariants.{Commit, Tree, Blob, Tag}
use Rattle.gix_spec.specs.declared.spec.parse.fault.Fault.TheVariants.{RegexPrefix, UnknownTarget}
use Rattle.gix_spec.specs.Call.{Target, object, valid_object, recursive_tag}
use Rattle.gix_spec.specs.Pieces.{regex, peel}
use Rattle.gix_spec.specs.Marks.{dash, slash, bang}
use Rattle.gix_spec.specs.Part.{Part, piece, refusal}
use Rattle.gix_spec.specs.Braces.{Braced, in_braces}

-- The text is this word.
abbrev pub is_word : (word text : List ℕ) → Bool
is_word word text = pointwise nat_eq text word

-- The target that text names: a kind of object, any object, or, for an empty text, the object that
-- a tag leads to.
unfoldable pub target_named : (text : List ℕ) → Option Target
target_named text =
    if is_word (codes "commit") text then Some (object Commit)
    else if is_word (codes "tree") text then Some (object Tree)
    else if is_word (codes "blob") text then Some (object Blob)
    else if is_word (codes "tag") text then Some (object Tag)
    else if is_word (codes "object") text then Some valid_object
    else if is_word [] text then Some recursive_tag
    else None

-- The mark of a regex, after its `!`: how many bytes the mark takes, and whether it negates. The
-- mark is `!-`, or a `!` before another `!`.
abbrev pub banged_mark : (after : List ℕ) → Option (ℕ × Bool)
banged_mark [] = None
banged_mark (b ∷ rest) = if b == dash then Some (2, true) else if b == bang then Some (1, false) else None

-- The mark in front of a regex, if any: how many bytes it takes, and whether it negates.
unfoldable pub regex_mark : (text : List ℕ) → Option (ℕ × Bool)
regex_mark [] = Some (0, false)
regex_mark (b ∷ rest) = if b == bang then banged_mark rest else Some (0, false)

-- A regex after its slash: raw is the text as it is written, and meant is the text without escapes.
-- The regex may be empty. A `!` that begins no mark is the fault `RegexPrefix`.
abbrev pub marked_regex : (raw meant rest : List ℕ) → Option (ℕ × Bool) → Part
marked_regex raw meant rest None = refusal RegexPrefix (Some raw)
marked_regex raw meant rest (Some mark) = piece (regex (drop mark.0 meant) (drop mark.0 raw) mark.1) rest

-- In this file, after is the text after the `^`.

-- The target that the braces name. A text that names no target is the fault `UnknownTarget`.
abbrev pub peeled_to : Option Target → Braced → (after : List ℕ) → Part
peeled_to None x after = refusal UnknownTarget (Some x.raw)
peeled_to (Some target) x after = piece (peel target after) x.rest

-- The text in the braces: a regex after a slash, or the name of a target.
abbrev pub inside_target : (meant : List ℕ) → Braced → (after : List ℕ) → Part
inside_target [] x after = peeled_to (target_named []) x after
inside_target (b ∷ more) x after =
    if b == slash then marked_regex (drop 1 x.raw) more x.rest (regex_mark more) else peeled_to (target_named (b ∷ more)) x after

-- The braces after a `^`, where after begins with the opening brace.
unfoldable pub target_braces : (after : List ℕ) → Part
target_braces after = in_braces after (λ x. inside_target x.meant x after)
