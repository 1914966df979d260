-- What a parse may do, depending on the answers of its delegate.
use Rattle.std.specs.Prelude.{ℕ, List, Option}
use Rattle.gix_base.specs.declared.error.Exn.{Exn}
use Rattle.gix_spec.specs.declared.spec.parse.fault.Fault.{Fault}
use Rattle.gix_spec.specs.Call.{Call}

-- How a parse ends: well, or with a fault. A fault has the part of the text that it names and the
-- refusals that led to it.
pub data Leaf : Type 0 where
  fine : Leaf
  faulty : Fault → (input : Option (List ℕ)) → (first second : Option Exn) → Leaf

-- A leaf; or a call, with what follows if it is accepted and if it is refused; or a point at which
-- the parser itself allocates memory.
pub data Tree : Type 0 where
  leaf : Leaf → Tree
  ask : Call → (onward : Tree) → (otherwise : Exn → Tree) → Tree
  takes : Tree → Tree
