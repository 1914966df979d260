-- Histories whose commits have the hashes of their contents as ids, and what such ids determine.
use Rattle.std.specs.Prelude.{◌≡◌, ◌≢◌, ℕ, List, Some, None, IsTrue, ◌⊎◌}
use Rattle.gix_base.specs.declared.hash.ObjectId.{ObjectId}
use Rattle.gix_base.specs.declared.object.Kind.TheVariants.{Commit}
use Rattle.gix_revwalk.specs.History.{History, Entry, Has, IsAncestor, entry_at, is_one_of, parents_in}
use Rattle.gix_object.specs.ObjectForm.{id_of_object}
use Rattle.gix_object.specs.CommitForm.{IsCommit}

-- The content that was read under each id.
abbrev pub Contents : Type 0
Contents = ObjectId → List ℕ

-- The content is the one of this commit, and id is the hash of the content (git-hash-object;
-- gitglossary, "object name"). The commit has no generation number.
pub record IsAuthentic (content : List ℕ) (id : ObjectId) (commit : Entry) : Type 0 where
  pub named : id_of_object Commit content ≡ id
  pub says : IsCommit content commit.parents commit.time
  pub no_generation : commit.generation ≡ None

-- Every commit of the history h is authentic: the content under its id is the one of this commit.
abbrev pub AreAuthentic : Contents → History → Type 0
AreAuthentic contents h = (id : ObjectId) (commit : Entry) → entry_at h id ≡ Some commit → IsAuthentic (contents id) id commit

-- The history h is closed: it has every parent of its commits.
abbrev pub IsClosed : History → Type 0
IsClosed h = (a b : ObjectId) → IsTrue (is_one_of (parents_in (entry_at h a)) b) → Has h b

-- Two different contents were read under id, and both have this id. With their headers they are two
-- different byte strings with one SHA-1.
pub record Collides (contents others : Contents) (id : ObjectId) : Type 0 where
  pub differ : contents id ≢ others id
  pub first : id_of_object Commit (contents id) ≡ id
  pub second : id_of_object Commit (others id) ≡ id

-- A collision is at hand: two contents that were read under one id collide. The contents are part
-- of the statement. That two such contents exist somewhere would say nothing, since there are more
-- contents than ids.
abbrev pub HaveCollision : Contents → Contents → Type 0
HaveCollision contents others = (id : ObjectId) × Collides contents others id

-- Histories h and k have the same commit under each id that both have.
abbrev pub Agree : History → History → Type 0
Agree h k = (id : ObjectId) → Has h id → Has k id → entry_at k id ≡ entry_at h id

-- Two authentic histories agree, or two contents that were read under one id collide.
abbrev pub AuthenticAgree : Type 0
AuthenticAgree =
    (contents others : Contents) (h k : History) → AreAuthentic contents h → AreAuthentic others k
    → Agree h k ⊎ HaveCollision contents others

-- Each commit that tip reaches in h is reached by tip in k, and is the same commit there.
abbrev pub ReachesTheSame : History → History → ObjectId → Type 0
ReachesTheSame h k tip = (c : ObjectId) → IsAncestor h tip c → IsAncestor k tip c × (entry_at k c ≡ entry_at h c)

-- Let two histories be authentic, and the second one closed. Then each tip that the second history
-- has reaches in it the commits that it reaches in the first, or two contents that were read under
-- one id collide.
abbrev pub TipsDetermine : Type 0
TipsDetermine =
    (contents others : Contents) (h k : History) → AreAuthentic contents h → AreAuthentic others k → IsClosed k
    → ((tip : ObjectId) → Has k tip → ReachesTheSame h k tip) ⊎ HaveCollision contents others
