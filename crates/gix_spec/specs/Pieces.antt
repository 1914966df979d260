-- The pieces of a revision expression (gitrevisions, "Specifying Revisions" and "Specifying
-- Ranges").
use Rattle.std.specs.Prelude.{ℕ, List, Option, Bool}
use Rattle.gix_base.specs.declared.date.Time.{Time}
use Rattle.gix_spec.specs.declared.spec.Kind.{Kind}
use Rattle.gix_spec.specs.declared.spec.parse.delegate.ReflogLookup.{ReflogLookup}
use Rattle.gix_spec.specs.declared.spec.parse.delegate.SiblingBranch.{SiblingBranch}
use Rattle.gix_spec.specs.declared.spec.parse.delegate.Traversal.{Traversal}
use Rattle.gix_spec.specs.declared.spec.parse.fault.Fault.{Fault}
use Rattle.gix_spec.specs.Call.{Hint, Target}

-- A piece of a text, with the parts of the text that its calls and its faults name. Here inner is
-- the text between braces as it is written, after is the text after the mark of a step, rest is the
-- text after the piece, name is the name of its revision, and whole is the text from the start of
-- its revision on.
pub data Piece : Type 0 where
  -- `^` in front of the whole text
  exclude : Piece
  -- a regex: raw as it is written after its mark, and wanted, which is looked for
  regex : (wanted raw : List ℕ) (negated : Bool) → Piece
  -- a path in the index
  index : (path : List ℕ) (stage : ℕ) → Piece
  -- HEAD: written `@`, or implied by an empty side of a range
  head : Piece
  -- a name, and the digits and the hint of the prefix call that is tried first, if any
  name : (text whole : List ℕ) (attempt : Option (List ℕ × Option Hint)) → Piece
  -- `@{-n}`
  branch : (number : ℕ) (inner : List ℕ) → Piece
  -- `@{n}`: an entry, or a date of seconds
  reflog : ReflogLookup → (name inner : List ℕ) → Piece
  -- `@{upstream}`, `@{push}`
  sibling : SiblingBranch → (name inner : List ℕ) → Piece
  -- any other text in braces after an `@`: the time that it means at a moment, if it is a date
  date : (meaning : Time → Option Time) (name inner : List ℕ) → Piece
  -- braces with escapes, which are removed before the text in the braces is read
  unescaped : Piece
  -- `~n`, `^n`
  step : Traversal → (after : List ℕ) → Piece
  -- `^{commit}`, `^{}`, `^0` and the like
  peel : Target → (after : List ℕ) → Piece
  -- `:PATH` after a revision
  path : (path : List ℕ) → Piece
  -- `^!`, `^@`
  closer : Kind → (rest : List ℕ) → Piece
  -- `^-n`
  without_parent : (number : ℕ) (after rest : List ℕ) → Piece
  -- `..`, `...`
  range : Kind → Piece
  -- the end of a text, and the end of a text after a closer
  finish : Piece
  finished : Piece
  -- a fault of the text, and the part that it names
  fault : Fault → (input : Option (List ℕ)) → Piece
