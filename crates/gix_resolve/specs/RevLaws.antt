-- When both orders of names and abbreviated object names mean the same.
use Rattle.std.specs.Prelude.{◌≡◌, ◌↔◌, ℕ, List, None}
use Rattle.std.specs.List.{AllByRecursion}
use Rattle.gix_revision.specs.Call.{Target, object, path}
use Rattle.gix_revision.specs.DescribeText.{prefix_with}
use Rattle.gix_revision.specs.History.{History}
use Rattle.gix_revision.specs.Pieces as pieces
use Rattle.gix_revision.specs.Pieces.{Piece}
use Rattle.gix_revision.specs.Reading.{pieces_of}
use Rattle.gix_revision.specs.Tree.{Leaf}
use Rattle.gix_revision.specs.Types.ObjectKind.TheVariants.{Commit}
use Rattle.gix_revision.specs.Types.Time.{Time}
use Rattle.gix_resolve.specs.Known.{Known}
use Rattle.gix_resolve.specs.Resolved.{IsStep, IsStepBy, EndsAs}
use Rattle.gix_resolve.specs.RevParse.{digits_in, names_first}
use Rattle.gix_resolve.specs.declared.state.State.{State}

-- The target of a peel is a commit or a path.
abbrev pub IsSameDemand : Target → Type 0
IsSameDemand (object Commit) = Unit {0}
IsSameDemand (path p) = Unit {0}
IsSameDemand _ = ⊥

-- A name is plain if in neither order it can be an abbreviated object name. A peel is plain if its
-- target is a commit or a path. Any other piece is plain.
abbrev pub IsPlain : Piece → Type 0
IsPlain (pieces.name text whole attempt) = (attempt ≡ None) × (prefix_with text None ≡ None) × (prefix_with (digits_in text) None ≡ None)
IsPlain (pieces.peel target after) = IsSameDemand target
IsPlain _ = Unit {0}

-- A text with only plain pieces ends in the same states and in the same ways in both orders.
abbrev pub OrdersAgree : Known → History → Type 0
OrdersAgree known h =
    (text : List ℕ) (now : Time) (u : State) (l : Leaf) → AllByRecursion IsPlain (pieces_of text)
    → EndsAs (IsStep known h) text now u l ↔ EndsAs (IsStepBy (names_first known h)) text now u l
