-- Lists of calls of `merge_base` and `octopus`.
use Rattle.std.proofs.Common.{◌≡◌, ℕ, subst, List, [], ◌∷◌}
use Rattle.gix_revwalk.specs.History.{History}
use Rattle.gix_revwalk.specs.Graph.{Graphed}
use Rattle.gix_revwalk.specs.Faults.{count_after}
use Rattle.gix_revwalk.specs.Calls.{AreCalls}
use Rattle.gix_merge_base.specs.Queries.{AreRight, is_refused_by_source, IsCall}
use Rattle.gix_revwalk.specs.declared.graph.commit.Commit.{Commit}
use Rattle.gix_merge_base.specs.declared.merge_base.flags.Flags.{Flags}
use Rattle.gix_merge_base.specs.declared.merge_base.queries.Query.{Query}
use Rattle.gix_merge_base.specs.declared.merge_base.queries.Answer.{Answer}

module _ {S A : Type 0} (history : S → History) (faults : S → ℕ) where
  -- a call keeps the history, and counts its own refusal for the source
  pub keeps : (s t : Graphed S (Commit Flags A)) (q : Query A) (x : Answer A) → IsCall history faults s t q x → history t.source ≡ history s.source
  keeps s t q x call = call.after.graph.same_history

  pub counts : (s t : Graphed S (Commit Flags A)) (q : Query A) (x : Answer A) → IsCall history faults s t q x
      → faults t.source ≡ count_after (is_refused_by_source x) (faults s.source)
  counts s t q x call = call.after.graph.count

  -- each answer is right over the one history
  pub calls_right : (qs : List (Query A)) (xs : List (Answer A)) (s t : Graphed S (Commit Flags A))
      → AreCalls (IsCall history faults) qs xs s t → AreRight (history s.source) qs xs
  calls_right [] [] s t same = tt
  calls_right [] (x ∷ xs) s t none = absurd none
  calls_right (q ∷ qs) [] s t none = absurd none
  calls_right (q ∷ qs) (x ∷ xs) s t calls = (calls.1.right, subst (λ h. AreRight h qs xs) calls.1.after.graph.same_history (calls_right qs xs calls.0 t calls.2))
