-- What the answers about merge bases mean.
use Rattle.std.specs.Prelude.{◌≡◌, ◌↔◌, List, ◌∷◌, [], IsTrue, false, Option}
use Rattle.std.specs.List.{IsDistinct, list_all}
use Rattle.gix_base.specs.declared.error.NonEmpty.{NonEmpty}
use Rattle.gix_base.specs.declared.hash.ObjectId.{ObjectId}
use Rattle.gix_revwalk.specs.History.{History, same_id, is_one_of, IsAncestorOfAll}
use Rattle.gix_merge_base.specs.Bases.{AreBases, CoverBases, IsCommon, IsMaximal, ids_of, is_trivial}
use Rattle.gix_merge_base.specs.Keys.{IsInOrder}
use Rattle.gix_merge_base.specs.Octopus.{IsOctopusBase, IsCommonToAll, IsFirstOctopusBase}
use Rattle.gix_merge_base.specs.Premises.{IsAcyclicFrom, GenerationsNeverRiseFrom}
use Rattle.gix_merge_base.specs.Reducing.{IsIndependent, SomeOf}

-- In the history h, `found` has ids, each once and in order. If h is acyclic from f and os, with
-- ordered generations, these are their merge bases. If h is only acyclic, and the question is not
-- trivial, each id is a common ancestor, and all merge bases are among them (git-merge-base,
-- "Description").
pub record MeansBases {A : Type 0} (h : History) (f : ObjectId) (os : List ObjectId) (found : Option (NonEmpty ObjectId A)) : Type 0 where
  pub bases : IsAcyclicFrom h (f ∷ os) → GenerationsNeverRiseFrom h (f ∷ os) → AreBases h f os (ids_of found)
  pub without_generations : IsAcyclicFrom h (f ∷ os) → is_trivial f os ≡ false → CoverBases h f os (ids_of found)
  pub once : IsDistinct same_id (ids_of found)
  pub order : IsInOrder h (ids_of found)

-- In the history h, `left` has some of ids. If h is acyclic from ids, all that no other one of ids
-- reaches are among them. With ordered generations as well, there are no others (git-merge-base,
-- "--independent").
pub record MeansIndependent (h : History) (ids left : List ObjectId) : Type 0 where
  pub independent : IsAcyclicFrom h ids → GenerationsNeverRiseFrom h ids → (c : ObjectId) → IsTrue (is_one_of left c) ↔ IsIndependent h ids c
  pub kept : IsAcyclicFrom h ids → (c : ObjectId) → IsIndependent h ids c → IsTrue (is_one_of left c)
  pub some : SomeOf ids left

-- If the history h is acyclic from f and os, `found` has exactly those common ancestors of f and of
-- one of os that no other such ancestor reaches (git-merge-base, "Discussion").
abbrev pub MeansEarlyBases : History → ObjectId → List ObjectId → List ObjectId → Type 0
MeansEarlyBases h f os found =
    IsAcyclicFrom h (f ∷ os) → (c : ObjectId) → IsTrue (is_one_of found c) ↔ IsMaximal h (IsCommon h f os) c

-- If the history h is acyclic from ids, `left` has exactly those of ids that no other one of them
-- reaches (git-merge-base, "--independent").
abbrev pub MeansEarlyIndependent : History → List ObjectId → List ObjectId → Type 0
MeansEarlyIndependent h ids left = IsAcyclicFrom h ids → (c : ObjectId) → IsTrue (is_one_of left c) ↔ IsIndependent h ids c

-- In the history h, `found` is the first octopus base of f and os (`IsFirstOctopusBase`). If h is
-- acyclic from f and os, with ordered generations, it is their octopus base. If h is acyclic, and
-- not all of os are f, it is common to all (git-merge-base, "--octopus").
pub record MeansOctopus (h : History) (f : ObjectId) (os : List ObjectId) (found : Option ObjectId) : Type 0 where
  pub base : IsAcyclicFrom h (f ∷ os) → GenerationsNeverRiseFrom h (f ∷ os) → IsOctopusBase h f os found
  pub common : IsAcyclicFrom h (f ∷ os) → list_all (same_id f) os ≡ false → IsCommonToAll h f os found
  pub first : IsFirstOctopusBase h f os found

-- If the history h is acyclic from f and os, `found` has exactly those common ancestors of f and all
-- of os that no other such ancestor reaches (git-merge-base, "--octopus").
abbrev pub MeansOctopusBases : History → ObjectId → List ObjectId → List ObjectId → Type 0
MeansOctopusBases h f os found =
    IsAcyclicFrom h (f ∷ os) → (c : ObjectId) → IsTrue (is_one_of found c) ↔ IsMaximal h (IsAncestorOfAll h (f ∷ os)) c
