-- Runs of a tree, by the steps of a delegate.
use Rattle.gix_base.specs.declared.error.Exn.{Exn}
use Rattle.gix_spec.specs.Call.{Call}
use Rattle.gix_spec.specs.Answer.{Answer, accepted, refused, no_memory}
use Rattle.gix_spec.specs.Tree.{Leaf, Tree, leaf, ask, takes}

-- How a run ends: at a leaf, at a call that ran out of memory, or because the parser ran out of
-- memory.
pub data Outcome : Type 0 where
  ended : Leaf → Outcome
  without_memory : Outcome
  short_of_memory : Outcome

-- A run along a tree, from a state to a state and an outcome. No call follows an answer of
-- no_memory.
pub data IsRun {S : Type 0} (step : S → Call → Answer → S → Type 0) : S → Tree → S → Outcome → Type 0 where
  at_leaf : {s : S} {l : Leaf} → IsRun step s (leaf l) s (ended l)
  goes_on : {s t u : S} {c : Call} {onward : Tree} {otherwise : Exn → Tree} {o : Outcome} →
      step s c accepted t → IsRun step t onward u o → IsRun step s (ask c onward otherwise) u o
  turns : {s t u : S} {c : Call} {onward : Tree} {otherwise : Exn → Tree} {o : Outcome} {e : Exn} →
      step s c (refused e) t → IsRun step t (otherwise e) u o → IsRun step s (ask c onward otherwise) u o
  runs_out : {s t : S} {c : Call} {onward : Tree} {otherwise : Exn → Tree} →
      step s c no_memory t → IsRun step s (ask c onward otherwise) t without_memory
  has_room : {s u : S} {t : Tree} {o : Outcome} → IsRun step s t u o → IsRun step s (takes t) u o
  has_none : {s : S} {t : Tree} → IsRun step s (takes t) s short_of_memory

-- The beginning of a run: it may stop at any point of the tree.
pub data IsBeginning {S : Type 0} (step : S → Call → Answer → S → Type 0) : S → Tree → S → Type 0 where
  stops : {s : S} {t : Tree} → IsBeginning step s t s
  begins_accepted : {s t u : S} {c : Call} {onward : Tree} {otherwise : Exn → Tree} →
      step s c accepted t → IsBeginning step t onward u → IsBeginning step s (ask c onward otherwise) u
  begins_refused : {s t u : S} {c : Call} {onward : Tree} {otherwise : Exn → Tree} {e : Exn} →
      step s c (refused e) t → IsBeginning step t (otherwise e) u → IsBeginning step s (ask c onward otherwise) u
  begins_out : {s t : S} {c : Call} {onward : Tree} {otherwise : Exn → Tree} →
      step s c no_memory t → IsBeginning step s (ask c onward otherwise) t
  begins_room : {s u : S} {t : Tree} → IsBeginning step s t u → IsBeginning step s (takes t) u
