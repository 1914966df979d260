use Rattle.std.proofs.Common.{List, ℕ, ◌++◌, length}
use Rattle.gix_base.specs.declared.hash.ObjectId.{ObjectId}
use Rattle.gix_object.specs.CommitForm.{AreParents, IsBroken}
use Rattle.gix_object.proofs.commit.parents.Given as goal

-- The parents that the lines from here on name come after the ids, and a malformed line here is one of all.
abbrev pub invariant-lines : goal.invariant-lines
invariant-lines g l = record {
  read : (ids : List ObjectId) (end : List ℕ) → AreParents l.tree l.rest ids end → AreParents l.tree l.text (l.ids.items ++ ids) end;
  broken : IsBroken l.tree l.rest → IsBroken l.tree l.text;
}

abbrev pub decreases-lines : goal.decreases-lines
decreases-lines g l = length l.rest
