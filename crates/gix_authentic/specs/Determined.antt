-- What ids determine: the answers are the same over any two histories that are authentic and
-- closed, or two contents that were read under one id collide.
use Rattle.std.specs.Prelude.{◌≡◌, ◌⊎◌, ◌↔◌, ℕ, ◌∷◌, [], List, length, Bool, IsTrue, Option}
use Rattle.std.specs.List.Sorted.{IsStrictlySortedBy}
use Rattle.gix_base.specs.Hash.{id_order}
use Rattle.gix_base.specs.declared.hash.ObjectId.{ObjectId}
use Rattle.gix_revwalk.specs.History.{History, Has, IsAncestor, IsAncestorOfOne, is_one_of, IsBeyond}
use Rattle.gix_merge_base.specs.Bases.{AreBases}
use Rattle.gix_merge_base.specs.Octopus.{AreOctopusBases, IsOctopusBase}
use Rattle.gix_describe.specs.Described.{Names, Description, IsDescribed}
use Rattle.gix_object.specs.Authentic.{Contents, AreAuthentic, IsClosed, HaveCollision}

-- Histories h and k both have each of ids.
abbrev pub BothHave : History → History → List ObjectId → Type 0
BothHave h k ids = (id : ObjectId) → IsTrue (is_one_of ids id) → Has h id × Has k id

-- Let two histories be authentic and closed. Then the statement S holds of them, or two contents
-- that were read under one id collide. The laws below are about such histories.
abbrev pub HoldsOrCollides : (History → History → Type 0) → Type 0
HoldsOrCollides S =
    (contents others : Contents) (h k : History) → AreAuthentic contents h → AreAuthentic others k
    → IsClosed h → IsClosed k → S h k ⊎ HaveCollision contents others

-- Each commit that both histories have reaches the same commits in both, or two contents collide.
abbrev pub AncestryIsDetermined : Type 0
AncestryIsDetermined = HoldsOrCollides (λ h k.
    (a c : ObjectId) → BothHave h k (a ∷ []) → IsAncestor h a c ↔ IsAncestor k a c)

-- The list ids has the commits that shown reach and hidden do not, each once, in rising order
-- (git-rev-list, "Description").
pub record ListsBeyond (h : History) (shown hidden ids : List ObjectId) : Type 0 where
  pub beyond : (c : ObjectId) → IsTrue (is_one_of ids c) ↔ IsBeyond h hidden shown c
  pub rising : IsStrictlySortedBy id_order ids

-- There are n commits that shown reach and hidden do not (git-rev-list, "--count").
abbrev pub CountsBeyond : History → List ObjectId → List ObjectId → ℕ → Type 0
CountsBeyond h shown hidden n = (ids : List ObjectId) × ListsBeyond h shown hidden ids × (length ids ≡ n)

-- A range of ids that both histories have is the same in both, or two contents collide
-- (gitrevisions, "Specifying Ranges").
abbrev pub RangesAreDetermined : Type 0
RangesAreDetermined = HoldsOrCollides (λ h k.
    (shown hidden : List ObjectId) (c : ObjectId) → BothHave h k shown → BothHave h k hidden
    → IsBeyond h hidden shown c ↔ IsBeyond k hidden shown c)

-- The list of a range of ids that both histories have is the same in both, or two contents collide
-- (git-rev-list, "Description").
abbrev pub ListsAreDetermined : Type 0
ListsAreDetermined = HoldsOrCollides (λ h k.
    (shown hidden ids : List ObjectId) → BothHave h k shown → BothHave h k hidden
    → ListsBeyond h shown hidden ids ↔ ListsBeyond k shown hidden ids)

-- The number of commits in a range of ids that both histories have is the same in both, or two
-- contents collide (git-rev-list, "--count").
abbrev pub CountsAreDetermined : Type 0
CountsAreDetermined = HoldsOrCollides (λ h k.
    (shown hidden : List ObjectId) (n : ℕ) → BothHave h k shown → BothHave h k hidden
    → CountsBeyond h shown hidden n ↔ CountsBeyond k shown hidden n)

-- The merge bases of f and os, which both histories have, are the same in both, or two contents
-- collide (git-merge-base, "Discussion").
abbrev pub BasesAreDetermined : Type 0
BasesAreDetermined = HoldsOrCollides (λ h k.
    (f : ObjectId) (os ids : List ObjectId) → BothHave h k (f ∷ os)
    → AreBases h f os ids ↔ AreBases k f os ids)

-- The octopus bases of f and os, which both histories have, are the same in both, or two contents
-- collide (git-merge-base, "--octopus").
abbrev pub OctopusBasesAreDetermined : Type 0
OctopusBasesAreDetermined = HoldsOrCollides (λ h k.
    (f : ObjectId) (os ids : List ObjectId) → BothHave h k (f ∷ os)
    → AreOctopusBases h f os ids ↔ AreOctopusBases k f os ids)

-- The octopus base of f and os, which both histories have, is the same in both, or two contents
-- collide (git-merge-base, "--octopus").
abbrev pub OctopusBaseIsDetermined : Type 0
OctopusBaseIsDetermined = HoldsOrCollides (λ h k.
    (f : ObjectId) (os : List ObjectId) (r : Option ObjectId) → BothHave h k (f ∷ os)
    → IsOctopusBase h f os r ↔ IsOctopusBase k f os r)

-- By the same names, r describes a commit s that both histories have in one exactly if it does in
-- the other, or two contents collide (git-describe, "Description").
abbrev pub DescriptionsAreDetermined : Type 0
DescriptionsAreDetermined = HoldsOrCollides (λ h k.
    (s : ObjectId) (names : Names) (cap : ℕ) (fallback : Bool) (r : Option Description) → BothHave h k (s ∷ [])
    → IsDescribed h s names cap fallback r ↔ IsDescribed k s names cap fallback r)
