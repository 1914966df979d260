-- The octopus base of many heads: git-merge-base, "--octopus", over all bases of each step.
use Rattle.std.specs.Prelude.{◌≡◌, ◌↔◌, List, [], ◌∷◌, IsTrue, false, Option, Some, MatchBool, MatchOption, slice_get}
use Rattle.std.specs.List.{list_all}
use Rattle.std.specs.Ordering.{is_gt}
use Rattle.gix_base.specs.declared.hash.ObjectId.{ObjectId}
use Rattle.gix_revwalk.specs.History.{History, same_id, is_one_of, IsAncestorOfOne, IsAncestorOfAll}
use Rattle.gix_merge_base.specs.Bases.{IsMaximal}
use Rattle.gix_merge_base.specs.Keys.{choice, IsInOrder}
use Rattle.gix_merge_base.specs.Premises.{IsAcyclicFrom, GenerationsNeverRiseFrom}

-- If each of os is f, then r is the octopus base exactly if r is f. Otherwise r is the octopus base
-- exactly if r is maximal among the common ancestors of f and all of os, and listed before every
-- other maximal one. There is none exactly if there is no common ancestor (git-merge-base,
-- "--octopus").
abbrev pub IsOctopusBase : History → ObjectId → List ObjectId → Option ObjectId → Type 0
IsOctopusBase h f os r =
    MatchBool (list_all (same_id f) os) (r ≡ Some f)
    (MatchOption r ((c : ObjectId) → ¬ IsAncestorOfAll h (f ∷ os) c)
    (λ x. IsMaximal h (IsAncestorOfAll h (f ∷ os)) x
    × ((y : ObjectId) → IsMaximal h (IsAncestorOfAll h (f ∷ os)) y → IsTrue (is_gt (choice h x y)) → ⊥)))

-- The commit r is an ancestor of f and of all of os. There is none only if they have no common
-- ancestor.
abbrev pub IsCommonToAll : History → ObjectId → List ObjectId → Option ObjectId → Type 0
IsCommonToAll h f os r = MatchOption r ((c : ObjectId) → ¬ IsAncestorOfAll h (f ∷ os) c) (IsAncestorOfAll h (f ∷ os))

-- Each of ids is an ancestor of f and of all of os, and each such ancestor is an ancestor of one of
-- ids. If f and os have ordered generations, then the members of ids are exactly the maximal ones
-- of these ancestors (git-merge-base, "--octopus" with "--all").
pub record AreOctopusBases (h : History) (f : ObjectId) (os ids : List ObjectId) : Type 0 where
  pub each : (c : ObjectId) → IsTrue (is_one_of ids c) → IsAncestorOfAll h (f ∷ os) c
  pub cover : (c : ObjectId) → IsAncestorOfAll h (f ∷ os) c → IsAncestorOfOne h ids c
  pub maximal : GenerationsNeverRiseFrom h (f ∷ os) → (c : ObjectId) → IsTrue (is_one_of ids c) ↔ IsMaximal h (IsAncestorOfAll h (f ∷ os)) c

-- The list ids keeps what `octopus_bases` promises of an answer: `AreOctopusBases` if f and os are
-- acyclic and some of os is not f, the order `IsInOrder`, and only f if each of os is f.
pub record AnswersOctopusBases (h : History) (f : ObjectId) (os ids : List ObjectId) : Type 0 where
  pub bases : IsAcyclicFrom h (f ∷ os) → list_all (same_id f) os ≡ false → AreOctopusBases h f os ids
  pub order : IsInOrder h ids
  pub alone : IsTrue (list_all (same_id f) os) → ids ≡ f ∷ []

-- The answer r is the first of a list that keeps what `octopus_bases` promises of an answer. There
-- is none exactly if that list is empty.
abbrev pub IsFirstOctopusBase : History → ObjectId → List ObjectId → Option ObjectId → Type 0
IsFirstOctopusBase h f os r = (ids : List ObjectId) × AnswersOctopusBases h f os ids × (r ≡ slice_get ids 0)
