-- Parts of a text, and how they are joined.
use Rattle.std.specs.Prelude.{ℕ, List, [], ◌∷◌, ◌++◌, Option}
use Rattle.gix_spec.specs.declared.spec.parse.fault.Fault.{Fault}
use Rattle.gix_spec.specs.Pieces.{Piece, fault}

-- What follows a part: more may be read; or the part was a closer such as `^!`; or the part was a
-- fault.
pub data Way : Type 0 where
  onward : Way
  closed : Way
  broken : Way

-- A part: its pieces, the rest of the text after it, and what follows it.
pub record Part : Type 0 where
  pub pieces : List Piece
  pub rest : List ℕ
  pub way : Way

-- A part without a piece.
abbrev pub nothing : (text : List ℕ) → Part
nothing text = record { pieces = []; rest = text; way = onward }

-- A part with one piece, after which more may be read.
abbrev pub piece : Piece → (rest : List ℕ) → Part
piece p rest = record { pieces = p ∷ []; rest = rest; way = onward }

-- A part that is a closer.
abbrev pub closing : Piece → (rest : List ℕ) → Part
closing p rest = record { pieces = p ∷ []; rest = rest; way = closed }

-- A part that is a fault, after which nothing is read.
abbrev pub refusal : Fault → (input : Option (List ℕ)) → Part
refusal f input = record { pieces = fault f input ∷ []; rest = []; way = broken }

-- Part p, followed by part q if more may be read after p.
abbrev pub joined : Way → Part → Part → Part
joined onward p q = record { pieces = p.pieces ++ q.pieces; rest = q.rest; way = q.way }
joined closed p q = p
joined broken p q = p

-- Part p, followed by what more finds in the text after p.
abbrev pub followed : Part → (more : List ℕ → Part) → Part
followed p more = joined p.way p (more p.rest)
