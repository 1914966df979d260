-- What is said of the edges that ids reach, for fewer of these edges.
use Rattle.std.proofs.Common.{◌≡◌, refl, List, IsTrue}
use Rattle.gix_base.specs.declared.hash.ObjectId.{ObjectId}
use Rattle.gix_revwalk.specs.History.{History, is_one_of, IsAncestor, IsAncestorOfOne}
use Rattle.gix_merge_base.specs.Premises.{IsAcyclicFrom, GenerationsNeverRiseFrom}
use Rattle.gix_revwalk.specs.History.IsAncestor.{itself, further}
use Rattle.gix_revwalk.proofs.Ancestors.{anc-trans}

-- what ids reach, others reach too
abbrev pub ReachNoMore : History → List ObjectId → List ObjectId → Type 0
ReachNoMore h ids others = (c : ObjectId) → IsAncestorOfOne h ids c → IsAncestorOfOne h others c

-- ids that are among others
pub reach_among : (h : History) (ids others : List ObjectId) → ((i : ObjectId) → IsTrue (is_one_of ids i) → IsTrue (is_one_of others i)) → ReachNoMore h ids others
reach_among h ids others among c a = (a.0, among a.0 a.1, a.2)

pub acyclic_within : (h : History) (ids others : List ObjectId) → ReachNoMore h ids others → IsAcyclicFrom h others → IsAcyclicFrom h ids
acyclic_within h ids others within acyclic a b reached e = acyclic a b (within a reached) e

pub never_within : (h : History) (ids others : List ObjectId) → ReachNoMore h ids others → GenerationsNeverRiseFrom h others → GenerationsNeverRiseFrom h ids
never_within h ids others within never a b reached e = never a b (within a reached) e

-- a commit that is reached is no other commit's ancestor and descendant
pub same_both_ways : (h : History) (ids : List ObjectId) → IsAcyclicFrom h ids → (a b : ObjectId) → IsAncestorOfOne h ids a → IsAncestor h a b → IsAncestor h b a → a ≡ b
same_both_ways h ids acyclic a b reached (itself has) back = refl
same_both_ways h ids acyclic a b reached (further x b' p e) back = absurd (acyclic x b (reached.0, reached.1, anc-trans h reached.0 a x reached.2 p) e (anc-trans h b a x back p))
