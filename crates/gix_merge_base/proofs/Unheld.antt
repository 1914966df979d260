-- What is not held has no marks.
use Rattle.std.proofs.Common.{◌≡◌, ℕ, refl, ap, ◌∙◌, Option, Some, None}
use Rattle.std.specs.Option.{unwrap_or, option_map}
use Rattle.std.specs.Map.{lookup}
use Rattle.gix_base.specs.declared.hash.ObjectId.{ObjectId}
use Rattle.gix_revwalk.specs.History.{same_id}
use Rattle.gix_revwalk.specs.Graph.{Graphed}
use Rattle.gix_revwalk.specs.Numbers.{number_at}
use Rattle.gix_revwalk.specs.Data.{mark_with}
use Rattle.gix_revwalk.specs.declared.graph.commit.Commit.{Commit}
use Rattle.gix_revwalk.proofs.Places.{lookup-none}
use Rattle.gix_merge_base.specs.Marks.{marks_of, no_marks}
use Rattle.gix_merge_base.specs.PaintQueue.{marks_at, no_mark}
use Rattle.gix_merge_base.specs.declared.merge_base.flags.Flags.{Flags}

pub unheld-marks : {S A : Type 0} (g : Graphed S (Commit Flags A)) (q : ObjectId) → None ≡ number_at g q → marks_at g q ≡ no_marks
unheld-marks {S} {A} g q e = ap (λ (o : Option (Commit Flags A)). marks_of (unwrap_or (mark_with (unwrap_or (lookup (same_id q) g.marked) None) (option_map (λ (c : Commit Flags A). c.«data») o)) no_mark).marks) (lookup-none g.held q e) ∙ none (unwrap_or (lookup (same_id q) g.marked) None)
  where
    none : (o : Option ℕ) → marks_of (unwrap_or (mark_with o (option_map (λ (c : Commit Flags A). c.«data») None)) no_mark).marks ≡ no_marks
    none None = refl
    none (Some k) = refl
