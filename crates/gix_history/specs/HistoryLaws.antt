-- What the ids of tips determine in authentic mode.
use Rattle.std.specs.Prelude.{◌≡◌, ℕ, List, [], map, Option, Some, None, ◌⊎◌, refl}
use Rattle.gix_base.specs.declared.hash.ObjectId.{ObjectId}
use Rattle.gix_revwalk.specs.History.{History, Entry, Has, entry_at}
use Rattle.gix_object.specs.Authentic.{Contents, AreAuthentic, IsClosed, HaveCollision, ReachesTheSame}
use Rattle.gix_history.specs.Origins.{plain, IsCommitOf}
use Rattle.gix_history.specs.Levels.{AreCommits}

-- The history h without generation numbers.
abbrev pub plain_history : History → History
plain_history h = map (λ e. (e.0, plain e.1)) h

-- The content that an entry of id was read from; no bytes if there is no entry.
abbrev pub content_of : (id : ObjectId) (o : Option Entry) → ((commit : Entry) → o ≡ Some commit → IsCommitOf id commit) → List ℕ
content_of id None are = []
content_of id (Some e) are = (are e refl).0

-- The content that was read under each id of the history h.
abbrev pub contents_of : (h : History) → AreCommits h → Contents
contents_of h are id = content_of id (entry_at h id) (are id)

-- Let each commit of the history h be what a content says whose hash is its id. Then h without
-- generation numbers is authentic, with these contents. If h is closed, it still is.
abbrev pub PlainIsAuthentic : Type 0
PlainIsAuthentic =
    (h : History) (are : AreCommits h)
    → AreAuthentic (contents_of h are) (plain_history h) × (IsClosed h → IsClosed (plain_history h))

-- Let each commit of the histories h and k be what a content says whose hash is its id, and let k
-- be closed. Then each tip that k has reaches in k all commits that it reaches in h, and without
-- their generation numbers they are the same commits; or two different contents have one id.
abbrev pub TipsDetermine : Type 0
TipsDetermine =
    (h k : History) (ours : AreCommits h) (theirs : AreCommits k) → IsClosed k
    → ((tip : ObjectId) → Has k tip → ReachesTheSame (plain_history h) (plain_history k) tip)
    ⊎ HaveCollision (contents_of h ours) (contents_of k theirs)
