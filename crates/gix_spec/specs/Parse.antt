-- The answer of a parse: the final state of the delegate and the result are a run of the tree.
use Rattle.gix_base.specs.declared.date.Time.{Time}
use Rattle.std.specs.Prelude.{ℕ, List, ◌⊎◌, option_map, Result, Ok, Err}
use Rattle.gix_spec.specs.declared.spec.parse.Error.{Error}
use Rattle.gix_spec.specs.declared.spec.parse.Error.TheVariants.{OutOfMemory, Refused}
use Rattle.gix_spec.specs.Call.{Call}
use Rattle.gix_spec.specs.Answer.{Answer}
use Rattle.gix_spec.specs.Tree.{Tree, fine, faulty}
use Rattle.gix_spec.specs.Context.{start}
use Rattle.gix_spec.specs.Trees.{tree_of}
use Rattle.gix_spec.specs.Reading.{pieces_of}
use Rattle.gix_spec.specs.Run.{IsRun, ended, without_memory, short_of_memory}

-- The meaning of text at the moment now: the tree of its pieces.
abbrev pub meaning_of : (text : List ℕ) (now : Time) → Tree
meaning_of text now = tree_of (pieces_of text) (start now)

-- The run ended at u as the error says: at a leaf with that fault, or because the delegate or the
-- parser ran out of memory.
abbrev pub Fails : {S : Type 0} → (step : S → Call → Answer → S → Type 0) → S → Tree → S → Error → Type 0
Fails step s t u OutOfMemory = IsRun step s t u without_memory ⊎ IsRun step s t u short_of_memory
Fails step s t u (Refused f input first second) = IsRun step s t u (ended (faulty f (option_map (λ x. x.now) input) first second))

-- There is a run of the tree t from s to u with this result. It is Ok if the run ends at the leaf
-- fine.
abbrev pub Parses : {S : Type 0} → (step : S → Call → Answer → S → Type 0) → S → Tree → S → Result (Unit {0}) Error → Type 0
Parses step s t u (Ok x) = IsRun step s t u (ended fine)
Parses step s t u (Err e) = Fails step s t u e
