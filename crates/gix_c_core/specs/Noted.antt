-- The missing parents of a history, and what is noted of them: gitglossary, "parent".
use Rattle.std.specs.Prelude.{List, IsTrue}
use Rattle.gix_base.specs.declared.hash.ObjectId.{ObjectId}
use Rattle.gix_revwalk.specs.History.{History, Has, entry_at, is_one_of, parents_in}

-- The id p is a parent of a commit of the history h.
abbrev pub IsParent : History → ObjectId → Type 0
IsParent h p = (c : ObjectId) × IsTrue (is_one_of (parents_in (entry_at h c)) p)

-- The id p is a parent of a commit of the history h, and not a commit of it.
abbrev pub IsMissing : History → ObjectId → Type 0
IsMissing h p = IsParent h p × (¬ Has h p)

-- The list ids has only parents of commits of the history h, and every missing one.
pub record Remembers (h : History) (ids : List ObjectId) : Type 0 where
  pub parents : (p : ObjectId) → IsTrue (is_one_of ids p) → IsParent h p
  pub missing : (p : ObjectId) → IsMissing h p → IsTrue (is_one_of ids p)
