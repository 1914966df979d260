-- The content of a commit as git's walks read it: git-commit-tree, "DESCRIPTION"; gitglossary,
-- "commit object".
use Rattle.std.specs.Prelude.{◌≡◌, ◌≢◌, ℕ, ◌<◌, ◌≤◌, ◌^◌, ℤ, pos, Bool, true, false, ◌&&◌, nat_lt, List, [], ◌∷◌, length, drop, codes}
use Rattle.gix_base.specs.declared.hash.ObjectId.{ObjectId}
use Rattle.gix_object.specs.Lines.{begins, IsIdLine, id_at}
use Rattle.gix_object.specs.CommitTime.{seconds_at}
use Rattle.gix_object.specs.declared.commit.ParseError.{ParseError}
use Rattle.gix_object.specs.declared.commit.ParseError.TheVariants.{BadTree, BadParent, TimeOutOfRange, OutOfMemory}

-- The text begins with the line of a tree.
abbrev pub HasTree : List ℕ → Type 0
HasTree text = IsIdLine (codes "tree ") text

-- The id of the tree.
abbrev pub tree_of : List ℕ → ObjectId
tree_of text = id_at text 5

-- Whether git reads the front of the text as a parent line: the text begins with `parent ` and has
-- 48 bytes or more, which is the length of such a line.
unfoldable pub is_parent : List ℕ → Bool
is_parent text = nat_lt 47 (length text) && begins (codes "parent ") text

-- The text begins with the line of a parent, whose id is not the one of the tree.
pub record IsParent (tree : ObjectId) (text : List ℕ) : Type 0 where
  pub line : IsIdLine (codes "parent ") text
  pub other : id_at text 7 ≢ tree

-- The parent lines at the front of the text name these parents, in order, and then the rest
-- follows.
pub data AreParents (tree : ObjectId) : List ℕ → List ObjectId → List ℕ → Type 0 where
  none : (text : List ℕ) → is_parent text ≡ false → AreParents tree text [] text
  one : (text : List ℕ) (ids : List ObjectId) (rest : List ℕ) → IsParent tree text → AreParents tree (drop 48 text) ids rest → AreParents tree text (id_at text 7 ∷ ids) rest

-- One of the lines at the front of the text that git reads as parent lines is malformed.
pub data IsBroken (tree : ObjectId) : List ℕ → Type 0 where
  here : (text : List ℕ) → is_parent text ≡ true → (¬ IsParent tree text) → IsBroken tree text
  later : (text : List ℕ) → IsParent tree text → IsBroken tree (drop 48 text) → IsBroken tree text

-- The text begins with the line of a tree and the lines of these parents. The lines of the author
-- and of the committer follow and have this time, which is less than 2^63. If there are no such
-- lines, the time is 0 (`seconds_at`).
pub record IsCommit (text : List ℕ) (parents : List ObjectId) (time : ℤ) : Type 0 where
  pub rest : List ℕ
  pub tree : HasTree text
  pub lines : AreParents (tree_of text) (drop 46 text) parents rest
  pub seconds : time ≡ pos (seconds_at rest)
  pub small : seconds_at rest < 2 ^ 63

-- Why the text is not read: it does not begin with the line of a tree, a parent line is malformed,
-- or the time is 2^63 or more. The error `OutOfMemory` says nothing about the text.
abbrev pub IsRefused : List ℕ → ParseError → Type 0
IsRefused text BadTree = ¬ HasTree text
IsRefused text BadParent = HasTree text × IsBroken (tree_of text) (drop 46 text)
IsRefused text TimeOutOfRange =
    HasTree text × ((parents : List ObjectId) × (rest : List ℕ)
    × AreParents (tree_of text) (drop 46 text) parents rest × (2 ^ 63 ≤ seconds_at rest))
IsRefused text OutOfMemory = Unit {0}

-- Why the parent lines at the front of the text are not read: one of them is malformed, or memory
-- ran out.
abbrev pub IsUnread : ObjectId → List ℕ → ParseError → Type 0
IsUnread tree text BadTree = ⊥
IsUnread tree text BadParent = IsBroken tree text
IsUnread tree text TimeOutOfRange = ⊥
IsUnread tree text OutOfMemory = Unit {0}
