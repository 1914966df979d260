-- How calls leave their graph, one after another.
use Rattle.std.proofs.Common.{◌≡◌, ℕ, Result, Ok, refl}
use Rattle.gix_revwalk.specs.Faults.{is_source_fault}
use Rattle.gix_revwalk.specs.GraphAfter.{GraphAfter}
use Rattle.gix_revwalk.specs.History.{History}
use Rattle.gix_revwalk.specs.Graph.{Graphed}
use Rattle.gix_revwalk.specs.declared.graph.commit.Commit.{Commit}
use Rattle.gix_revwalk.specs.declared.graph.Error.{Error as GraphError}
use Rattle.gix_revwalk.proofs.GraphAfters.{graph_same, graph_as, graph_then}
use Rattle.gix_merge_base.proofs.QueueKeys.{kept-held, kept-same}
use Rattle.gix_merge_base.specs.Front.{HoldsSame}
use Rattle.gix_merge_base.specs.AfterCall.{AfterCall}
use Rattle.gix_merge_base.specs.declared.merge_base.flags.Flags.{Flags}
use Rattle.gix_merge_base.specs.declared.merge_base.error.Error.{Error}

-- the graph after calls of which none was refused
abbrev pub AfterCalls : {S A : Type 0} → (S → History) → (S → ℕ) → Graphed S (Commit Flags A) → Graphed S (Commit Flags A) → Type 0
AfterCalls history faults before after = AfterCall {T = Unit {0}} history faults before after (Ok tt)

-- the graph after steps of a walk of which none was refused
abbrev pub AfterSteps : {S T : Type 0} → (S → History) → (S → ℕ) → Graphed S T → Graphed S T → Type 0
AfterSteps history faults before after = GraphAfter history faults (is_source_fault {T = Unit {0}}) before after (Ok tt)

module _ {S T : Type 0} {history : S → History} {faults : S → ℕ} where
  -- no step yet
  pub steps_begin : (a b : Graphed S T) → b.source ≡ a.source → b.held ≡ a.held → AfterSteps history faults a b
  steps_begin a b source held = graph_same a b (Ok tt) refl source (kept-held a b held)

  -- marks alone are given after these
  pub steps_same : (a b c : Graphed S T) → AfterSteps history faults a b → HoldsSame b c → AfterSteps history faults a c
  steps_same a b c p same = graph_then a b c (Ok tt) (Ok tt) refl p (graph_same b c (Ok tt) refl same.source (kept-same b c same.ids))

  -- a step after these
  pub steps_more : {U : Type 0} (a b c : Graphed S T) (r : Result U GraphError) → AfterSteps history faults a b → GraphAfter history faults is_source_fault b c r → GraphAfter history faults is_source_fault a c r
  steps_more a b c r p q = graph_then a b c (Ok tt) r refl p q

module _ {S A : Type 0} {history : S → History} {faults : S → ℕ} where
  -- where nothing is asked
  pub after_none : (g : Graphed S (Commit Flags A)) → AfterCalls history faults g g
  after_none g = record { graph = graph_same g g (Ok tt) refl refl (λ q there. there); cause = tt }

  -- a call after these
  pub after_more : {T : Type 0} (a b c : Graphed S (Commit Flags A)) (r : Result T Error)
      → AfterCalls history faults a b → AfterCall history faults b c r → AfterCall history faults a c r
  after_more a b c r p q = record { graph = graph_then a b c (Ok tt) r refl p.graph q.graph; cause = q.cause }

  -- steps of a walk are calls
  pub after_step : (a b : Graphed S (Commit Flags A)) → AfterSteps history faults a b → AfterCalls history faults a b
  after_step a b p = record { graph = graph_as a b (Ok tt) (Ok tt) refl p; cause = tt }

  -- what a call answered does not matter to those that follow
  pub after_ok : {T : Type 0} (a b : Graphed S (Commit Flags A)) (x : T) → AfterCall history faults a b (Ok x) → AfterCalls history faults a b
  after_ok a b x p = record { graph = graph_as a b (Ok x) (Ok tt) refl p.graph; cause = tt }
