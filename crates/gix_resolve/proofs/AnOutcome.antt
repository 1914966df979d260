-- Some run of each text under the steps ends at a leaf.
use Rattle.std.proofs.Common.{◌≡◌, Result, Ok, Err, refl}
use Rattle.gix_revision.specs.Call.{Call}
use Rattle.gix_revision.specs.Parse.{meaning_of}
use Rattle.gix_revision.specs.Run.{IsRun, at_leaf, goes_on, turns, has_room, ended}
use Rattle.gix_revision.specs.Tree.{Tree, Leaf, leaf, ask, takes}
use Rattle.gix_revision.specs.Types.Exn.{Exn}
use Rattle.gix_resolve.specs.ResolveLaws.{HasAnOutcomeBy}
use Rattle.gix_resolve.specs.Resolved.{Way, IsStepBy}
use Rattle.gix_resolve.specs.Says.{AreSaid}
use Rattle.gix_resolve.specs.Steps.{start}
use Rattle.gix_resolve.specs.declared.refusal.Refusal.{Refusal}
use Rattle.gix_resolve.specs.declared.state.State.{State}

module _ (w : Way) (said : AreSaid) where
  abbrev HasRun : State → Tree → Type 0
  HasRun s t = (u : State) × (l : Leaf) × IsRun (IsStepBy w) s t u (ended l)

  run_asked : (s : State) (c : Call) (onward : Tree) (otherwise : Exn → Tree) (next : Result State Refusal) → w.after s c ≡ next → ((v : State) → HasRun v onward) → ((e : Exn) → HasRun s (otherwise e))
      → HasRun s (ask c onward otherwise)
  run_asked s c onward otherwise (Ok v) is on aside = let run = on v in (run.0, run.1, goes_on is run.2)
  run_asked s c onward otherwise (Err why) is on aside = let e = said why in let run = aside e.0 in (run.0, run.1, turns (refl, (why, is, e.1)) run.2)

  has_run : (t : Tree) (s : State) → HasRun s t
  has_run (leaf l) s = (s, l, at_leaf)
  has_run (takes t) s = let run = has_run t s in (run.0, run.1, has_room run.2)
  has_run (ask c onward otherwise) s = run_asked s c onward otherwise (w.after s c) refl (λ v. has_run onward v) (λ e. has_run (otherwise e) s)

  pub an_outcome : HasAnOutcomeBy w
  an_outcome text now = has_run (meaning_of text now) start
