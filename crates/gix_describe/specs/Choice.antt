-- Which candidate is chosen, and what a walk finds.
use Rattle.std.specs.Prelude.{◌≡◌, ℕ, ◌<◌, false, List, [], ◌∷◌, length, slice_index, get_or, Option, Some, None, MatchOption}
use Rattle.std.specs.Option.{unwrap_or}
use Rattle.std.specs.Ordering.{nat_cmp, on, then_cmp, is_gt}
use Rattle.std.specs.Cmp.Lexicographic.{slice_cmp}
use Rattle.std.specs.declared.cmp.Ordering.{Ordering}
use Rattle.gix_base.specs.declared.hash.ObjectId.{ObjectId}
use Rattle.gix_revwalk.specs.History.{History, Has, IsAncestor}
use Rattle.gix_revwalk.specs.Sizes.{HasSize}
use Rattle.gix_describe.specs.declared.describe.options.Tie.{Tie}
use Rattle.gix_describe.specs.declared.describe.options.Tie.TheVariants.{ById, ByMeeting}
use Rattle.gix_describe.specs.Described.{Names, name_at, IsNamedBy}

-- The rank of a candidate is its count, its name and its id; by meeting, its count and its place.
abbrev pub Rank : Type 0
Rank = ℕ × List ℕ × List ℕ

-- Ranks are compared by count, then by name, then by id.
abbrev pub rank_order : Rank → Rank → Ordering
rank_order = then_cmp (then_cmp (on (λ r. r.0) nat_cmp) (on (λ r. r.1) (slice_cmp nat_cmp))) (on (λ r. r.2) (slice_cmp nat_cmp))

-- The name of commit c; no bytes if c has none.
abbrev pub name_of : Names → ObjectId → List ℕ
name_of names c = unwrap_or (name_at names c) []

-- The rank of the commit id with a count.
abbrev pub rank_of : Names → ℕ → ObjectId → Rank
rank_of names count id = (count, name_of names id, id.0)

-- The rank of the candidate at place j.
abbrev pub rank_at : Tie → Names → List ObjectId → List ℕ → ObjectId → ℕ → Rank
rank_at ById names candidates counts d j = rank_of names (slice_index counts j) (get_or candidates j d)
rank_at ByMeeting names candidates counts d j = (slice_index counts j, j ∷ [], [])

-- The candidate at place j is chosen if no candidate comes before it.
abbrev pub IsChosen : Tie → Names → List ObjectId → List ℕ → ℕ → Type 0
IsChosen tie names candidates counts j =
    (j < length candidates) × ((d : ObjectId) (k : ℕ) → k < length candidates
    → is_gt (rank_order (rank_at tie names candidates counts d j) (rank_at tie names candidates counts d k)) ≡ false)

-- A walk from s finds a named ancestor with its depth, or none if no ancestor has a name. It also
-- finds how many commits were seen: all ancestors, if none has a name.
abbrev pub IsFound : History → ObjectId → Names → ℕ → Option (ObjectId × ℕ) → ℕ → Type 0
IsFound h s names cap best seen =
    Has h s × MatchOption best
    (((c : ObjectId) → IsAncestor h s c → name_at names c ≡ None) × HasSize (IsAncestor h s) seen)
    (λ p. (name : List ℕ) × (name_at names p.0 ≡ Some name) × IsNamedBy h s names cap p.0 name p.1 seen)
