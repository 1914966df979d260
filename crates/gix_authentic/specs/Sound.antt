-- Why authentic histories meet the premises of answers.
use Rattle.std.specs.Prelude.{◌≡◌, IsTrue}
use Rattle.gix_base.specs.declared.hash.ObjectId.{ObjectId}
use Rattle.gix_base.specs.declared.object.Kind.TheVariants.{Commit}
use Rattle.gix_revwalk.specs.History.{History, Entry, IsEdge, IsAncestor, GenerationsNeverRise, is_one_of}
use Rattle.gix_object.specs.ObjectForm.{id_of_object}
use Rattle.gix_object.specs.CommitForm.{IsCommit}
use Rattle.gix_object.specs.Authentic.{Contents, AreAuthentic}

-- The content under the id a has a as its hash, and is that of a commit with the parent b.
pub record Names (contents : Contents) (a b : ObjectId) : Type 0 where
  pub named : id_of_object Commit (contents a) ≡ a
  pub commit : Entry
  pub says : IsCommit (contents a) commit.parents commit.time
  pub parent : IsTrue (is_one_of commit.parents b)

-- The content under the id a names b as a parent, or names one whose content does, and so on.
pub data NamesInTurn (contents : Contents) (a : ObjectId) : ObjectId → Type 0 where
  once : (b : ObjectId) → Names contents a b → NamesInTurn contents a b
  onward : (b c : ObjectId) → NamesInTurn contents a b → Names contents b c → NamesInTurn contents a c

-- Contents name each other's hashes in a circle.
abbrev pub HaveCircle : Contents → Type 0
HaveCircle contents = (id : ObjectId) × NamesInTurn contents id id

-- If a commit of an authentic history is an ancestor of one of its parents, contents name each
-- other's hashes in a circle. Otherwise the history is acyclic.
abbrev pub CyclesAreCircles : Type 0
CyclesAreCircles =
    (contents : Contents) (h : History) → AreAuthentic contents h
    → (a b : ObjectId) → IsEdge h a b → IsAncestor h b a → HaveCircle contents

-- An authentic history has ordered generations, since no commit has a generation number.
abbrev pub GenerationsAreOrdered : Type 0
GenerationsAreOrdered = (contents : Contents) (h : History) → AreAuthentic contents h → GenerationsNeverRise h
