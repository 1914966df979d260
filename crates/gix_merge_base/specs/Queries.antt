-- What a call of `merge_base` or `octopus` in a list answers.
use Rattle.std.specs.Prelude.{◌≡◌, ◌⊎◌, ℕ, List, [], ◌∷◌, Bool, false, IsTrue, Option, Some, Result, Ok, Err}
use Rattle.std.specs.List.{IsDistinct, list_all}
use Rattle.gix_base.specs.declared.hash.ObjectId.{ObjectId}
use Rattle.gix_revwalk.specs.History.{History, same_id}
use Rattle.gix_revwalk.specs.Graph.{Graphed}
use Rattle.gix_merge_base.specs.Bases.{IsBase, AreBases, CoverBases, ids_of, is_trivial}
use Rattle.gix_merge_base.specs.Keys.{IsInOrder}
use Rattle.gix_merge_base.specs.Premises.{IsAcyclicFrom, GenerationsNeverRiseFrom, KeysFallFrom}
use Rattle.gix_merge_base.specs.Painting.{MayBeTaken}
use Rattle.gix_merge_base.specs.PaintQueue.{IsHeld}
use Rattle.gix_merge_base.specs.Octopus.{IsOctopusBase, IsCommonToAll}
use Rattle.gix_merge_base.specs.Refusals.{is_source_fault}
use Rattle.gix_merge_base.specs.AfterCall.{AfterCall}
use Rattle.gix_revwalk.specs.declared.graph.commit.Commit.{Commit}
use Rattle.gix_merge_base.specs.declared.merge_base.flags.Flags.{Flags}
use Rattle.gix_merge_base.specs.declared.merge_base.error.Error.{Error}
use Rattle.gix_merge_base.specs.declared.merge_base.queries.Query.{Query}
use Rattle.gix_merge_base.specs.declared.merge_base.queries.Query.TheVariants.{MergeBase as AskBases, Octopus as AskOctopus}
use Rattle.gix_merge_base.specs.declared.merge_base.queries.Answer.{Answer}
use Rattle.gix_merge_base.specs.declared.merge_base.queries.Answer.TheVariants.{MergeBase, Octopus, Refused}

-- The list ids keeps what `merge_base` promises of an answer: `AreBases` and `CoverBases` under
-- their premises, each id once, the order `IsInOrder`, and only f if the call is trivial.
pub record AnswersBases (h : History) (f : ObjectId) (os ids : List ObjectId) : Type 0 where
  pub bases : IsAcyclicFrom h (f ∷ os) → GenerationsNeverRiseFrom h (f ∷ os) → AreBases h f os ids
  pub without_generations : IsAcyclicFrom h (f ∷ os) → is_trivial f os ≡ false → CoverBases h f os ids
  pub once : IsDistinct same_id ids
  pub order : IsInOrder h ids
  pub alone : IsTrue (is_trivial f os) → ids ≡ f ∷ []

-- The answer r keeps what `octopus` promises in its clauses `base`, `common` and `trivial`:
-- `IsOctopusBase` and `IsCommonToAll` under their premises, and f if each of os is f.
pub record AnswersOctopus (h : History) (f : ObjectId) (os : List ObjectId) (r : Option ObjectId) : Type 0 where
  pub base : IsAcyclicFrom h (f ∷ os) → GenerationsNeverRiseFrom h (f ∷ os) → IsOctopusBase h f os r
  pub common : IsAcyclicFrom h (f ∷ os) → list_all (same_id f) os ≡ false → IsCommonToAll h f os r
  pub alone : IsTrue (list_all (same_id f) os) → r ≡ Some f

-- With falling keys and at most one merge base, a query for merge bases loads only what
-- `MayBeTaken` allows. This says nothing about a query for an octopus base.
abbrev pub TakesLittle : {S T A : Type 0} → History → Graphed S T → Graphed S T → Query A → Type 0
TakesLittle h old new (AskBases f os) =
    KeysFallFrom h (f ∷ os.items)
    → ((a b : ObjectId) → IsBase h f os.items a → IsBase h f os.items b → a ≡ b)
    → (p : ObjectId) → IsHeld new p → IsHeld old p ⊎ MayBeTaken h f os.items p
TakesLittle h old new (AskOctopus f os) = Unit {0}

-- Nothing has to be looked up to answer the query. For merge bases, os is empty or contains f. For
-- an octopus base, each of os is f.
abbrev pub asks_nothing : {A : Type 0} → Query A → Bool
asks_nothing (AskBases f os) = is_trivial f os.items
asks_nothing (AskOctopus f os) = list_all (same_id f) os.items

-- The answer is right over the history h: it is of the query's kind and has `AnswersBases` or
-- `AnswersOctopus`, or it is an error and something has to be looked up.
abbrev pub IsRight : {A : Type 0} → History → Query A → Answer A → Type 0
IsRight h (AskBases f os) (MergeBase found) = AnswersBases h f os.items (ids_of found)
IsRight h (AskBases f os) (Octopus r) = ⊥
IsRight h (AskBases f os) (Refused e) = is_trivial f os.items ≡ false
IsRight h (AskOctopus f os) (MergeBase found) = ⊥
IsRight h (AskOctopus f os) (Octopus r) = AnswersOctopus h f os.items r
IsRight h (AskOctopus f os) (Refused e) = list_all (same_id f) os.items ≡ false

-- There is one answer for each query, in order, and each is right.
abbrev pub AreRight : {A : Type 0} → History → List (Query A) → List (Answer A) → Type 0
AreRight h [] [] = Unit {0}
AreRight h [] (a ∷ rest) = ⊥
AreRight h (q ∷ qs) [] = ⊥
AreRight h (q ∷ qs) (a ∷ rest) = IsRight h q a × AreRight h qs rest

-- The answer as the result of a call.
abbrev pub outcome_of : {A : Type 0} → Answer A → Result (Unit {0}) Error
outcome_of (MergeBase found) = Ok tt
outcome_of (Octopus r) = Ok tt
outcome_of (Refused e) = Err e

-- Tests whether the answer is the source error.
abbrev pub is_refused_by_source : {A : Type 0} → Answer A → Bool
is_refused_by_source a = is_source_fault (outcome_of a)

module _ {S A : Type 0} (history : S → History) (faults : S → ℕ) where
  -- One call answers a to the query q, right over the history of the graph old. If nothing has to
  -- be looked up, the graph is unchanged. `TakesLittle` and `AfterCall` say what the graph new
  -- holds.
  pub record IsCall (old new : Graphed S (Commit Flags A)) (q : Query A) (a : Answer A) : Type 0 where
    pub right : IsRight (history old.source) q a
    pub unchanged : IsTrue (asks_nothing q) → new ≡ old
    pub taken : TakesLittle (history old.source) old new q
    pub after : AfterCall history faults old new (outcome_of a)
