-- Laws of the definitions. Each is the contract of a function of the module `laws`.
use Rattle.std.specs.Prelude.{◌≡◌, ◌↔◌, List, [], ◌∷◌, ◌++◌, Bool, IsTrue, not, Option}
use Rattle.std.specs.List.Sorted.{IsPermutation}
use Rattle.gix_merge_base.specs.Octopus.{IsOctopusBase}
use Rattle.gix_revwalk.specs.History.{History, Has, is_one_of, IsEdge, IsAncestor, IsAncestorOfOne}
use Rattle.gix_revwalk.specs.History.{IsAcyclic, GenerationsNeverRise}
use Rattle.gix_merge_base.specs.Bases.{IsMaximal, IsBase, AreBases}
use Rattle.gix_merge_base.specs.Keys.{IsInOrder, InFallingOrder, KeysFall, NoneRises}
use Rattle.gix_merge_base.specs.Premises.{IsAcyclicFrom, GenerationsNeverRiseFrom, KeysFallFrom, NoneRisesFrom}
use Rattle.gix_revwalk.specs.Sizes.{is_empty}
use Rattle.gix_base.specs.declared.hash.ObjectId.{ObjectId}

-- Commit c is one of ids.
abbrev pub Among : List ObjectId → ObjectId → Type 0
Among ids c = IsTrue (is_one_of ids c)

-- Commit c is in the set that test decides.
abbrev pub Passes : (ObjectId → Bool) → ObjectId → Type 0
Passes test c = IsTrue (test c)

-- If an edge leads from a to b, then the history has a and b.
abbrev pub EdgesJoinCommits : Type 0
EdgesJoinCommits = (h : History) (a b : ObjectId) → IsEdge h a b → Has h a × Has h b

-- A commit that the history has is its own ancestor.
abbrev pub AncestorsHoldTheStart : Type 0
AncestorsHoldTheStart = (h : History) (a : ObjectId) → Has h a → IsAncestor h a a

-- If b is an ancestor of a, and c is an ancestor of b, then c is an ancestor of a.
abbrev pub AncestorsGoOn : Type 0
AncestorsGoOn =
    (h : History) (a b c : ObjectId) → IsAncestor h a b → IsAncestor h b c → IsAncestor h a c

-- If c is an ancestor of a, then the history has a and c.
abbrev pub AncestorsAreCommits : Type 0
AncestorsAreCommits = (h : History) (a c : ObjectId) → IsAncestor h a c → Has h a × Has h c

-- A set that has a (if the history has a) and follows every edge has all ancestors of a.
abbrev pub AncestorsAreLeast : Type 0
AncestorsAreLeast =
    (h : History) (a : ObjectId) (set : ObjectId → Bool)
    → (Has h a → Passes set a)
    → ((b c : ObjectId) → Passes set b → IsEdge h b c → Passes set c)
    → (c : ObjectId) → IsAncestor h a c → Passes set c

-- If ids are acyclic, and a is reachable from ids, and a and b are ancestors of each other, then a
-- is b.
abbrev pub NoneAreMutualAncestors : Type 0
NoneAreMutualAncestors =
    (h : History) (ids : List ObjectId) → IsAcyclicFrom h ids
    → (a b : ObjectId) → IsAncestorOfOne h ids a → IsAncestor h a b → IsAncestor h b a → a ≡ b

-- If ids are acyclic, and the history has each of them, then each of them is an ancestor of a
-- maximal one.
abbrev pub MaximalAboveEach : Type 0
MaximalAboveEach =
    (h : History) (ids : List ObjectId) → IsAcyclicFrom h ids → ((c : ObjectId) → Among ids c → Has h c)
    → (c : ObjectId) → Among ids c
    → (m : ObjectId) × IsMaximal h (Among ids) m × IsAncestor h m c

-- If ids are acyclic, the history has each of them, and there is at least one, then there is a
-- maximal one.
abbrev pub MaximalExists : Type 0
MaximalExists =
    (h : History) (ids : List ObjectId) → IsAcyclicFrom h ids → ((c : ObjectId) → Among ids c → Has h c)
    → IsTrue (not (is_empty ids))
    → (m : ObjectId) × IsMaximal h (Among ids) m

-- Let lacked be an id that the history does not have. It changes no merge bases as one of the
-- others, unless it is f or the only one of the others.
abbrev pub LackedChangesNoBases : Type 0
LackedChangesNoBases =
    (h : History) (f lacked : ObjectId) (before after : List ObjectId)
    → (¬ Has h lacked) → (¬ (lacked ≡ f)) → IsTrue (not (is_empty (before ++ after)))
    → (c : ObjectId) → IsBase h f (before ++ lacked ∷ after) c ↔ IsBase h f (before ++ after) c

-- If b and o are acyclic, then the ancestors of their merge bases are exactly the common ancestors
-- of b and o.
abbrev pub BasesCover : Type 0
BasesCover =
    (h : History) (b o : ObjectId) → IsAcyclicFrom h (b ∷ o ∷ [])
    → (c : ObjectId)
    → ((x : ObjectId) × IsBase h b (o ∷ []) x × IsAncestor h x c) ↔ (IsAncestor h b c × IsAncestor h o c)

-- If f and os have the same members as g and ps, in whatever order and however often, then they
-- have the same octopus base.
abbrev pub SameIdsSameOctopusBase : Type 0
SameIdsSameOctopusBase =
    (h : History) (f g : ObjectId) (os ps : List ObjectId) (r s : Option ObjectId)
    → ((i : ObjectId) → Among (f ∷ os) i ↔ Among (g ∷ ps) i)
    → IsOctopusBase h f os r → IsOctopusBase h g ps s → r ≡ s

-- If g and ps are f and os in another order, then they have the same octopus base.
abbrev pub OctopusBaseInAnyOrder : Type 0
OctopusBaseInAnyOrder =
    (h : History) (f g : ObjectId) (os ps : List ObjectId) (r s : Option ObjectId)
    → IsPermutation (f ∷ os) (g ∷ ps)
    → IsOctopusBase h f os r → IsOctopusBase h g ps s → r ≡ s

-- If a whole history is acyclic, or has ordered generations, falling keys or never-rising keys,
-- then it has the same property for what ids reach.
abbrev pub WholeHistoriesMeet : Type 0
WholeHistoriesMeet =
    (h : History) (ids : List ObjectId)
    → (IsAcyclic h → IsAcyclicFrom h ids)
    × (GenerationsNeverRise h → GenerationsNeverRiseFrom h ids)
    × (KeysFall h → KeysFallFrom h ids)
    × (NoneRises h → NoneRisesFrom h ids)

-- If each of ids is one of `more`, and what `more` reach is acyclic, or has ordered generations,
-- falling keys or never-rising keys, then what ids reach has the same property.
abbrev pub FewerIdsAskLess : Type 0
FewerIdsAskLess =
    (h : History) (ids more : List ObjectId) → ((i : ObjectId) → Among ids i → Among more i)
    → (IsAcyclicFrom h more → IsAcyclicFrom h ids)
    × (GenerationsNeverRiseFrom h more → GenerationsNeverRiseFrom h ids)
    × (KeysFallFrom h more → KeysFallFrom h ids)
    × (NoneRisesFrom h more → NoneRisesFrom h ids)

-- If ids have falling keys, then they are acyclic and have ordered generations.
abbrev pub FallingKeysSuffice : Type 0
FallingKeysSuffice =
    (h : History) (ids : List ObjectId) → KeysFallFrom h ids
    → IsAcyclicFrom h ids × GenerationsNeverRiseFrom h ids

-- If ids are in the order of answers, then no later id has a greater key than an earlier one.
abbrev pub OrderedIdsFall : Type 0
OrderedIdsFall = (h : History) (ids : List ObjectId) → IsInOrder h ids → InFallingOrder h ids

-- Two lists of the merge bases of f and os in the order of answers are equal.
abbrev pub OrderedBasesAreOne : Type 0
OrderedBasesAreOne =
    (h : History) (f : ObjectId) (os xs ys : List ObjectId)
    → AreBases h f os xs → IsInOrder h xs → AreBases h f os ys → IsInOrder h ys → xs ≡ ys
