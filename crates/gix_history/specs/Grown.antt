-- How the known part of a history grows.
use Rattle.std.specs.Prelude.{◌≡◌, List, Option, Some}
use Rattle.std.specs.Map.{lookup}
use Rattle.gix_base.specs.declared.hash.ObjectId.{ObjectId}
use Rattle.gix_revwalk.specs.History.{History, Entry, Has, entry_at, same_id}
use Rattle.gix_history.specs.declared.reader.Origin.{Origin}
use Rattle.gix_history.specs.Origins.{IsFrom}

-- The commits that are known of a history, and where each is from.
pub record Sourced : Type 0 where
  pub commits : History
  pub origins : List (ObjectId × Origin)

-- Where the commit id is from, if this was noted.
abbrev pub origin_at : Sourced → ObjectId → Option Origin
origin_at known id = lookup (same_id id) known.origins

-- For each known commit an origin is noted, and the commit is from there.
abbrev pub AreSourced : Sourced → Type 0
AreSourced known =
    (id : ObjectId) (commit : Entry) → entry_at known.commits id ≡ Some commit
    → (origin : Origin) × (origin_at known id ≡ Some origin) × IsFrom origin id commit

-- Each commit of `known` is in `more` the same commit, with the same origin.
pub record Grows (known more : Sourced) : Type 0 where
  pub commits : (id : ObjectId) → Has known.commits id → entry_at more.commits id ≡ entry_at known.commits id
  pub origins : (id : ObjectId) → Has known.commits id → origin_at more id ≡ origin_at known id
