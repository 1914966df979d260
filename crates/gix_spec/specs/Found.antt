-- The parts that the code reads, as pieces and parts of the definitions.
use Rattle.std.specs.Prelude.{ℕ, ◌≤◌, ◌<◌, ◌^◌, List, [], ◌∷◌, Option, Some, None, option_map, Result, Ok, Err, ◌==◌, if◌then◌else◌}
use Rattle.std.specs.Borrow.{Bor}
use Rattle.gix_base.specs.Prefix.{prefix_text}
use Rattle.gix_spec.specs.declared.spec.parse.number.Signed.{Signed as FoundSigned}
use Rattle.gix_spec.specs.declared.spec.parse.number.Signed.TheVariants as signs
use Rattle.gix_spec.specs.declared.spec.parse.part.Attempt.{Attempt as FoundAttempt}
use Rattle.gix_spec.specs.declared.spec.parse.part.Piece.{Piece as FoundPiece}
use Rattle.gix_spec.specs.declared.spec.parse.part.Piece.TheVariants as found
use Rattle.gix_spec.specs.declared.spec.parse.part.Part.{Part as FoundPart}
use Rattle.gix_spec.specs.declared.spec.parse.part.Refusal.{Refusal}
use Rattle.gix_spec.specs.declared.spec.parse.part.Way.{Way as FoundWay}
use Rattle.gix_spec.specs.declared.spec.parse.part.Way.TheVariants as ways
use Rattle.gix_spec.specs.Call.{hint_of, target_of}
use Rattle.gix_spec.specs.Pieces.{Piece, exclude, regex, index, head, name, branch, reflog, sibling, step, peel, path, closer, without_parent, range, finish}
use Rattle.gix_spec.specs.DescribeText.{Attempt}
use Rattle.gix_spec.specs.Number.{Signed, minus, plain}
use Rattle.gix_spec.specs.Part.{Part, Way, onward, closed, refusal}

-- The prefix call that the code tries first for a name: its digits and its hint.
abbrev pub attempt_found : FoundAttempt → Attempt
attempt_found a = (prefix_text a.prefix, option_map hint_of a.hint)

-- A number of the code, with a minus sign or without one.
abbrev pub signed_found : FoundSigned → Signed
signed_found (signs.Minus n) = minus n
signed_found (signs.Plain n) = plain n

-- An isize can hold the number.
abbrev pub FitsIsize : FoundSigned → Type 0
FitsIsize (signs.Minus n) = n ≤ 2 ^ 63
FitsIsize (signs.Plain n) = n < 2 ^ 63

-- The bytes of a text of the code, if there is one.
abbrev pub slice_of : Option (Bor (List ℕ)) → Option (List ℕ)
slice_of input = option_map (λ x. x.now) input

-- The piece that a piece of the code stands for.
abbrev pub piece_of : FoundPiece → Piece
piece_of found.Exclude = exclude
piece_of (found.Regex wanted raw negated) = regex wanted.now raw.now negated
piece_of (found.Index p stage) = index p.now stage
piece_of found.Head = head
piece_of (found.Name text whole attempt) = name text.now whole.now (option_map attempt_found attempt)
piece_of (found.Branch n inner) = branch n inner.now
piece_of (found.Reflog query own inner) = reflog query own.now inner.now
piece_of (found.Sibling which own inner) = sibling which own.now inner.now
piece_of (found.Step t after) = step t after.now
piece_of (found.Peel target after) = peel (target_of target) after.now
piece_of (found.Path p) = path p.now
piece_of (found.Closer k rest) = closer k rest.now
piece_of (found.WithoutParent n after rest) = without_parent n after.now rest.now
piece_of (found.Range k) = range k
piece_of found.Finish = finish

-- The pieces of a part of the code, which has at most one.
abbrev pub pieces_found : Option FoundPiece → List Piece
pieces_found None = []
pieces_found (Some p) = piece_of p ∷ []

-- What follows a part of the code.
abbrev pub way_of : FoundWay → Way
way_of ways.Onward = onward
way_of ways.Closed = closed

-- The part that a part of the code stands for, or a refusal of the code.
abbrev pub part_of : Result FoundPart Refusal → Part
part_of (Ok p) = record { pieces = pieces_found p.piece; rest = p.rest.now; way = way_of p.way }
part_of (Err r) = refusal r.fault (slice_of r.input)

-- The text after mark, if the text begins with mark.
abbrev pub after_mark : (mark : ℕ) → (text : List ℕ) → Option (List ℕ)
after_mark mark [] = None
after_mark mark (b ∷ rest) = if b == mark then Some rest else None
