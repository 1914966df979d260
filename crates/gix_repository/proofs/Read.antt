-- Commits of the object database, as a history takes them.
use Rattle.std.proofs.Common.{◌≡◌, sym, subst, refl}
use Rattle.gix_base.specs.declared.hash.ObjectId.{ObjectId}
use Rattle.gix_revwalk.specs.History.{Entry}
use Rattle.gix_history.specs.Origins as origins
use Rattle.gix_odb.specs.Stores as stores

-- A copy of a commit that the database has under id is authentic.
pub read_authentic : (id : ObjectId) (found copied : Entry) → copied ≡ found → stores.IsCommitOf id found → origins.IsCommitOf id copied
read_authentic id found copied same is =
    subst (λ e. origins.IsCommitOf id e) (sym same) (is.0, record { named = is.1.named; says = is.1.says; no_generation = refl })
