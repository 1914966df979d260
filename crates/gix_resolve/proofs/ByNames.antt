-- Carries runs from the resolver of `resolve` to that of `rev_parse`.
use Rattle.std.proofs.Common.{◌≡◌, inl, inr, ℕ, List, sym, ap, subst, ◌∙◌}
use Rattle.gix_revision.specs.Answer.{Answer, accepted, refused, no_memory}
use Rattle.gix_revision.specs.Call.{Call}
use Rattle.gix_revision.specs.History.{History}
use Rattle.gix_revision.specs.Parse.{Fails}
use Rattle.gix_revision.specs.Run.{IsRun, Outcome}
use Rattle.gix_revision.specs.Tree.{Tree}
use Rattle.gix_revision.specs.Types.Error.{Error}
use Rattle.gix_revision.specs.Types.ObjectId.{ObjectId}
use Rattle.gix_resolve.specs.Known.{Known}
use Rattle.gix_resolve.specs.Resolved.{IsStepOrFault, IsStepOrFaultBy, asked_as, asks_source}
use Rattle.gix_resolve.specs.ResolverStep.{Answers, known_of}
use Rattle.gix_resolve.specs.RevParse.{after_names, commit_for, names_first}
use Rattle.gix_resolve.specs.RevStep.{AnswersByNames, RevAnswers, resolver_of}
use Rattle.gix_resolve.specs.Steps.{after}
use Rattle.gix_resolve.specs.Taken.{TakesOnly, IsOnCall, LacksOne, IsAskedAt}
use Rattle.gix_resolve.specs.declared.resolver.Resolver.{Resolver}
use Rattle.gix_resolve.specs.declared.resolver.names_first.NamesFirst.{NamesFirst}
use Rattle.gix_resolve.specs.declared.state.State.{State}
use Rattle.gix_resolve.proofs.Resolves.{run_seen, fails_seen}

-- a call as the source is asked by both
abbrev asked : Call → Call
asked = asked_as (λ target. target)

-- a step at a call that both take alike
step_also : (known : Known) (h : History) (s : State) (c : Call) (a : Answer) (u : State) → after known h s c ≡ after_names known h s c → asked c ≡ asked_as commit_for c
    → IsStepOrFault known h s c a u → IsStepOrFaultBy (names_first known h) s c a u
step_also known h s c accepted u same asks step = sym same ∙ step
step_also known h s c (refused e) u same asks (inl step) = inl (step.0, (step.1.0, sym same ∙ step.1.1, step.1.2))
step_also known h s c (refused e) u same asks (inr failed) = inr (failed.0, sym (ap asks_source asks) ∙ failed.1, failed.2)
step_also known h s c no_memory u same asks step = (step.0, sym (ap asks_source asks) ∙ step.1)

module _ {S A I : Type 0} (ids : I → List ObjectId) (history : S → History) (faults : S → ℕ) where
  pub answers_also : (s : Resolver S A I) (c : Call) (a : Answer) (u : Resolver S A I) → ((known : Known) (h : History) (x : State) → after known h x c ≡ after_names known h x c)
      → asked c ≡ asked_as commit_for c → Answers ids history faults s c a u → AnswersByNames ids history faults s c a u
  answers_also s c a u same asks answers =
      let h = history s.graph.now.source in
      record {
        step = step_also (known_of ids s) h s.state c a u.state (same (known_of ids s) h s.state) asks answers.step;
        table = answers.table;
        same_reference = answers.same_reference;
        same_history = answers.same_history;
        count = answers.count;
        held = answers.held;
        taken = subst (λ x. TakesOnly (IsOnCall h s.state.current x) s.graph.now u.graph.now) asks answers.taken;
        there = λ is yes. answers.there is (ap asks_source asks ∙ yes);
        lacks = λ is. subst (λ x. LacksOne (IsAskedAt h s.state.current x) u.graph.now) asks (answers.lacks is);
      }

  -- a run of the delegate is one of its resolver
  within : (s u : NamesFirst S A I) (c : Call) (a : Answer) → Unit {0} → RevAnswers ids history faults s c a u → AnswersByNames ids history faults (resolver_of s) c a (resolver_of u) × Unit {0}
  within s u c a has step = (step, tt)

  pub run_within : {s u : NamesFirst S A I} {t : Tree} {o : Outcome} → IsRun (RevAnswers ids history faults) s t u o → IsRun (AnswersByNames ids history faults) (resolver_of s) t (resolver_of u) o
  run_within run = run_seen (RevAnswers ids history faults) (AnswersByNames ids history faults) (λ (s : NamesFirst S A I). resolver_of s) (λ s. Unit {0}) within tt run

  pub fails_within : (s : NamesFirst S A I) (t : Tree) (u : NamesFirst S A I) (e : Error) → Fails (RevAnswers ids history faults) s t u e → Fails (AnswersByNames ids history faults) (resolver_of s) t (resolver_of u) e
  fails_within s t u e run = fails_seen (RevAnswers ids history faults) (AnswersByNames ids history faults) (λ (s : NamesFirst S A I). resolver_of s) (λ s. Unit {0}) within s u t e tt run
