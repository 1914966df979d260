-- The maximal ones of what painting gives are the best common ancestors.
use Rattle.std.proofs.Common.{◌≡◌, true, false, sym, subst, ◌∙◌, List, [], ◌∷◌, IsTrue, ◌↔◌, ◌≤◌, length, arith}
use Rattle.std.specs.List.{IsDistinct}
use Rattle.gix_revwalk.proofs.Ids.{same_id-equal}
use Rattle.gix_base.specs.declared.hash.ObjectId.{ObjectId}
use Rattle.gix_revwalk.specs.History.{History, IsAncestor, is_one_of, same_id}
use Rattle.gix_merge_base.specs.Premises.{IsAcyclicFrom}
use Rattle.gix_merge_base.specs.Bases.{IsCommon, IsMaximal}
use Rattle.gix_merge_base.specs.Reducing.{IsIndependent, firsts, SomeOf}
use Rattle.gix_merge_base.proofs.Reduction.{firsts_once, firsts_has}
use Rattle.gix_revwalk.proofs.Members.{one_of-head, one_of-tail, one_of-single, one_of-filter, distinct_filter}
use Rattle.gix_revwalk.proofs.Ancestors.{anc-trans}
use Rattle.gix_merge_base.proofs.Octopus.{best_above}
use Rattle.gix_merge_base.proofs.Reached.{ReachNoMore, same_both_ways}

-- what is painted reaches no more than what was handed in
pub painted_within : (h : History) (f : ObjectId) (os xs : List ObjectId) → ((c : ObjectId) → IsTrue (is_one_of xs c) → IsCommon h f os c)
    → ReachNoMore h xs (f ∷ os)
painted_within h f os xs common c a = (f, one_of-head f os, anc-trans h f a.0 c (common a.0 a.1).0 a.2)

pub max_of_painted : (h : History) (f : ObjectId) (os xs : List ObjectId) → IsAcyclicFrom h (f ∷ os) → ((c : ObjectId) → IsTrue (is_one_of xs c) → IsCommon h f os c) → ((c : ObjectId) → IsMaximal h (IsCommon h f os) c → IsTrue (is_one_of xs c))
    → (c : ObjectId) → IsIndependent h xs c ↔ IsMaximal h (IsCommon h f os) c
max_of_painted h f os xs acyclic common best c = (
  λ max. (
    common c max.0,
    λ t t_common leads.
        let b = best_above h f os acyclic t t_common in
        let is : b.0 ≡ c = max.1 b.0 (best b.0 b.1) (anc-trans h b.0 t c b.2 leads) in
        same_both_ways h (f ∷ os) acyclic t c (f, one_of-head f os, t_common.0) leads (subst (λ z. IsAncestor h z t) is b.2),
  ),
  λ max. (best c max, λ t t_in leads. max.1 t (common t t_in) leads),
)

-- one that is painted alone is best
pub alone_is_max : (h : History) (x c : ObjectId) → IsTrue (is_one_of (x ∷ []) c) → IsIndependent h (x ∷ []) c
alone_is_max h x c k = (k, λ t t_in leads. one_of-single x t t_in ∙ sym (one_of-single x c k))

pub few_are_max : (h : History) (xs : List ObjectId) → length xs ≤ 1 → (c : ObjectId) → IsTrue (is_one_of xs c) → IsIndependent h xs c
few_are_max h [] few c k = cc
few_are_max h (x ∷ []) few c k = alone_is_max h x c k
few_are_max h (x ∷ y ∷ xs) few c k = absurd (omega arith)

-- different ids that are all equal are at most one
pub few_alike : (xs : List ObjectId) → IsDistinct same_id xs → ((a b : ObjectId) → IsTrue (is_one_of xs a) → IsTrue (is_one_of xs b) → a ≡ b) → length xs ≤ 1
unfolding IsDistinct
few_alike [] d alike = omega arith
few_alike (x ∷ []) d alike = omega arith
few_alike (x ∷ y ∷ xs) d alike =
    let off : same_id x y ≡ false = d.0.0 in
    let on : same_id x y ≡ true = same_id-equal x y (alike x y (one_of-head x (y ∷ xs)) (one_of-tail x (y ∷ xs) y (one_of-head y xs))) in
    cc

pub some_once : (xs ys : List ObjectId) → SomeOf xs ys → IsDistinct same_id ys
some_once xs ys s = rw s.1 (distinct_filter s.0 (firsts xs) (firsts_once xs))

pub some_within : (xs ys : List ObjectId) → SomeOf xs ys → (c : ObjectId) → IsTrue (is_one_of ys c) → IsTrue (is_one_of xs c)
some_within xs ys s c k = (firsts_has xs c).0 (one_of-filter s.0 (firsts xs) c (subst (λ z. IsTrue (is_one_of z c)) s.1 k)).0
