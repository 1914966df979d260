-- What a revision loads into a graph: the commits on its steps. And which commits are not all held
-- if its source did not answer.
use Rattle.std.specs.Prelude.{◌≡◌, ℕ, List, Some, Result, Ok, Err, IsTrue}
use Rattle.gix_revision.specs.Answer.{Answer, accepted}
use Rattle.gix_revision.specs.Call.{Call}
use Rattle.gix_revision.specs.Graph.{Graphed, KeepsHeld}
use Rattle.gix_revision.specs.History.{History}
use Rattle.gix_revision.specs.Parse.{meaning_of, Fails}
use Rattle.gix_revision.specs.Run.{IsRun, ended}
use Rattle.gix_revision.specs.Tree.{fine}
use Rattle.gix_revision.specs.Types.Error.{Error}
use Rattle.gix_revision.specs.Types.Spec.{Spec}
use Rattle.gix_revision.specs.Types.Time.{Time}
use Rattle.gix_resolve.specs.Known.{Known}
use Rattle.gix_resolve.specs.Resolved.{Way, IsStepOrFaultBy, asked_as, asks_source, digits_first, goes_unanswered}
use Rattle.gix_resolve.specs.Steps.{start}
use Rattle.gix_resolve.specs.Taken.{TakesOnly, IsOnCall, HoldsBoth, LacksOne, IsAskedAt}
use Rattle.gix_resolve.specs.declared.state.State.{State}

-- A step over a source that may fail, with the graph before and after it. Held commits stay held,
-- and newly held ones are on the call. If a call that asks the source is accepted, the revisions
-- from which and to which it goes are held. If the source did not answer, some commit that the call
-- may ask for is not held.
pub record WalksBy {S T : Type 0} (w : Way) (h : History) (s : State × Graphed S T) (c : Call) (a : Answer) (u : State × Graphed S T) : Type 0 where
  pub step : IsStepOrFaultBy w s.0 c a u.0
  pub held : KeepsHeld s.1 u.1
  pub taken : TakesOnly (IsOnCall h s.0.current (asked_as w.demand c)) s.1 u.1
  pub there : a ≡ accepted → IsTrue (asks_source (asked_as w.demand c)) → HoldsBoth s.0.current u.0.current u.1
  pub lacks : IsTrue (goes_unanswered a) → LacksOne (IsAskedAt h s.0.current (asked_as w.demand c)) u.1

-- The answer is the spec or the error with which a run of steps of way w ends that leads from graph
-- m to graph n.
abbrev pub WalkedBy : {S T : Type 0} → Way → History → (text : List ℕ) → Time → Graphed S T → Result Spec Error → Graphed S T → Type 0
WalkedBy w h text now m (Ok spec) n =
    (u : State) × IsRun (WalksBy w h) (start, m) (meaning_of text now) (u, n) (ended fine) × (u.spec ≡ Some spec)
WalkedBy w h text now m (Err e) n = (u : State) × Fails (WalksBy w h) (start, m) (meaning_of text now) (u, n) e

-- The answer r comes of a run of `resolve` that leads from graph m to graph n.
abbrev pub WalkedTo : {S T : Type 0} → (text : List ℕ) → Time → Known → History → Graphed S T → Result Spec Error → Graphed S T → Type 0
WalkedTo text now known h m r n = WalkedBy (digits_first known h) h text now m r n
