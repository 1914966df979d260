-- Where the commits of a history are from.
use Rattle.std.specs.Prelude.{ℕ, List, Option, None, IfSome}
use Rattle.gix_base.specs.declared.hash.ObjectId.{ObjectId}
use Rattle.gix_revwalk.specs.History.{History, Entry}
use Rattle.gix_revwalk.specs.Held.{entry_of}
use Rattle.gix_object.specs.Authentic.{Contents, AreAuthentic, IsAuthentic}
use Rattle.gix_history.specs.declared.reader.Origin.{Origin}
use Rattle.gix_history.specs.declared.reader.Origin.TheVariants.{Authentic, File, Changed}
use Rattle.gix_history.specs.declared.reader.Read.{Read}

-- The entry without its generation number.
abbrev pub plain : Entry → Entry
plain e = record { parents = e.parents; time = e.time; generation = None }

-- A content whose hash is id says the parents and the commit date of the entry (git-hash-object;
-- gitglossary, "object name").
abbrev pub IsCommitOf : ObjectId → Entry → Type 0
IsCommitOf id entry = (content : List ℕ) × IsAuthentic content id (plain entry)

-- The entry of id is from this origin. Only `Authentic` says something: a content whose hash is id
-- says the parents and the commit date of the entry.
abbrev pub IsFrom : Origin → ObjectId → Entry → Type 0
IsFrom Authentic id entry = IsCommitOf id entry
IsFrom File id entry = Unit {0}
IsFrom Changed id entry = Unit {0}

-- The commit that was read for id, if there is one, is from where it says.
abbrev pub IsReadOf : {A : Type 0} → ObjectId → Option (Read A) → Type 0
IsReadOf id found = IfSome found (λ r. IsFrom r.origin id (entry_of r.commit))

-- The entry of id is what a content says whose hash is id, and has no generation number.
abbrev pub IsFromObject : ObjectId → Entry → Type 0
IsFromObject id entry = (content : List ℕ) × IsAuthentic content id entry

-- Each commit of the history h is what a content says whose hash is its id, and has no generation
-- number (git-hash-object; gitglossary, "object name").
abbrev pub AreFromObjects : History → Type 0
AreFromObjects h = (contents : Contents) × AreAuthentic contents h
