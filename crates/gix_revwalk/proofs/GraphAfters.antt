-- How a series of calls leaves its graph.
use Rattle.std.proofs.Common.{◌≡◌, ℕ, Bool, false, ap, ◌∙◌, sym}
use Rattle.gix_revwalk.specs.History.{History}
use Rattle.gix_revwalk.specs.Graph.{Graphed, KeepsHeld}
use Rattle.gix_revwalk.specs.Faults.{count_after}
use Rattle.gix_revwalk.specs.GraphAfter.{GraphAfter}

module _ {S T R : Type 0} {history : S → History} {faults : S → ℕ} {is_fault : R → Bool} where
  -- A call that does not ask the source.
  pub graph_same : (a b : Graphed S T) (r : R) → is_fault r ≡ false → b.source ≡ a.source → KeepsHeld a b → GraphAfter history faults is_fault a b r
  graph_same a b r fine source held = record {
    same_history = ap history source;
    count = ap faults source ∙ sym (ap (λ t. count_after t (faults a.source)) fine);
    held = held;
  }

  -- Another answer to the same call, which is an error for the same cause.
  pub graph_as : {U : Type 0} {fails : U → Bool} (a b : Graphed S T) (u : U) (r : R) → fails u ≡ is_fault r → GraphAfter history faults fails a b u → GraphAfter history faults is_fault a b r
  graph_as a b u r same p = record {
    same_history = p.same_history;
    count = p.count ∙ ap (λ t. count_after t (faults a.source)) same;
    held = p.held;
  }

  -- A call after one without a source error.
  pub graph_then : {U : Type 0} {fails : U → Bool} (a b c : Graphed S T) (u : U) (r : R) → fails u ≡ false → GraphAfter history faults fails a b u → GraphAfter history faults is_fault b c r → GraphAfter history faults is_fault a c r
  graph_then a b c u r fine p q = record {
    same_history = q.same_history ∙ p.same_history;
    count = q.count ∙ ap (count_after (is_fault r)) (p.count ∙ ap (λ t. count_after t (faults a.source)) fine);
    held = λ i there. q.held i (p.held i there);
  }
