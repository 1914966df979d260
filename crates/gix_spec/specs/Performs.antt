-- The effect of a function of the parser on a run, whatever follows.
use Rattle.std.specs.Prelude.{true, false, option_map, ◌≡◌, ℕ, List, ◌++◌, Option, Some, None, Result, Ok, Err, IfOk}
use Rattle.std.specs.Option.{IsSomeAnd}
use Rattle.gix_base.specs.declared.error.Exn.{Exn, out-Exn}
use Rattle.gix_spec.specs.declared.spec.parse.fault.Fault.{Fault}
use Rattle.gix_spec.specs.declared.spec.parse.Error.{Error}
use Rattle.gix_spec.specs.declared.spec.parse.Error.TheVariants.{OutOfMemory, Refused}
use Rattle.gix_spec.specs.declared.spec.parse.context.Stopped.{Stopped}
use Rattle.gix_spec.specs.declared.spec.parse.part.Behind.{Behind}
use Rattle.gix_spec.specs.Call.{Call}
use Rattle.gix_spec.specs.Answer.{Answer}
use Rattle.gix_spec.specs.Tree.{Tree}
use Rattle.gix_spec.specs.Run.{IsRun, Outcome}
use Rattle.gix_spec.specs.Context.{Context}
use Rattle.gix_spec.specs.Pieces.{Piece}
use Rattle.gix_spec.specs.Trees.{tree_of}
use Rattle.gix_spec.specs.Part.{Part}
use Rattle.gix_spec.specs.Found.{way_of}
use Rattle.gix_spec.specs.Parse.{Fails}

-- The answer of a function of the parser, with the reason that was kept if the parse has stopped.
abbrev pub told_by : {X : Type 0} → Result X Stopped → Option Error → Result X (Option Error)
told_by (Ok x) e = Ok x
told_by (Err stopped) e = Err e

-- The calls led from state s with the tree t ahead to state u with the tree v ahead.
abbrev pub Leads : {S : Type 0} → (step : S → Call → Answer → S → Type 0) → S → Tree → S → Tree → Type 0
Leads {S} step s t u v = (w : S) (o : Outcome) → IsRun step u v w o → IsRun step s t w o

-- Either the calls led to u with the tree v ahead, or the run ended at u as the kept error says.
abbrev pub GoesTo : {S X : Type 0} → (step : S → Call → Answer → S → Type 0) → S → Tree → S → Result X (Option Error) → Tree → Type 0
GoesTo step s t u (Ok x) v = Leads step s t u v
GoesTo step s t u (Err e) v = IsSomeAnd e (λ x. Fails step s t u x)

-- The calls are those of the pieces ps, whatever follows, and the context went from m to n.
pub record Performs {S X : Type 0} (step : S → Call → Answer → S → Type 0) (ps : List Piece) (s : S) (m : Context) (u : S) (n : Context) (out : Result X Stopped) (error : Option Error) : Type 0 where
  pub performs : (more : List Piece) → GoesTo step s (tree_of (ps ++ more) m) u (told_by out error) (tree_of more n)

-- The calls are those at the beginning of a tree, whatever follows.
pub record Asks {S X : Type 0} (step : S → Call → Answer → S → Type 0) (begin : Tree → Tree) (s u : S) (out : Result X Stopped) (error : Option Error) : Type 0 where
  pub asks : (onward : Tree) → GoesTo step s (begin onward) u (told_by out error) onward

-- Part p was read: the calls are those of its pieces. If none failed, the function returned the
-- part's rest and way.
pub record Reads {S : Type 0} (step : S → Call → Answer → S → Type 0) (p : Part) (s : S) (m : Context) (u : S) (n : Context) (out : Result Behind Stopped) (error : Option Error) : Type 0 where
  pub calls : Performs step p.pieces s m u n out error
  pub behind : IfOk out (λ b. (b.rest.now ≡ p.rest) × (way_of b.way ≡ p.way))

-- The error of a refused call that has to be accepted.
abbrev pub TellsOf : Exn → Fault → Option (List ℕ) → Error → Type 0
TellsOf e f input OutOfMemory = (out-Exn e).out_of_memory ≡ true
TellsOf e f input (Refused g given first second) =
    ((out-Exn e).out_of_memory ≡ false) × (g ≡ f) × (option_map (λ x. x.now) given ≡ input) × (first ≡ Some e) × (second ≡ None)

-- The parse goes on exactly if the call was accepted. Otherwise the kept error tells of the
-- refusal.
abbrev pub DemandedBy : Result (Unit {0}) Exn → Fault → Option (List ℕ) → Result (Unit {0}) (Option Error) → Type 0
DemandedBy (Ok a) f input (Ok b) = Unit {0}
DemandedBy (Err e) f input (Err err) = IsSomeAnd err (λ x. TellsOf e f input x)
DemandedBy (Ok a) f input (Err err) = ⊥
DemandedBy (Err e) f input (Ok b) = ⊥

-- After a call that has to be accepted, the function goes on exactly if the answer accepted it.
-- Otherwise the kept error is that of the refusal.
pub record Demanded (answer : Result (Unit {0}) Exn) (f : Fault) (input : Option (List ℕ)) (out : Result (Unit {0}) Stopped) (error : Option Error) : Type 0 where
  pub demanded : DemandedBy answer f input (told_by out error)
