-- Lines of parents that are followed downwards.
use Rattle.std.proofs.Common.{arith, ◌≡◌, ◌==◌, ◌<◌, ◌+◌, ℕ, Bool, true, refl, sym, subst, ◌∙◌, List, [], ◌∷◌, ◌++◌, inl, inr, IsTrue, false, length, take, get_or}
use Rattle.std.specs.List.{slice_get}
use Rattle.std.proofs.lemmas.Bool.Decides.{Decides-eqb}
use Rattle.std.specs.List.Sorted.{IsPermutation}
use Rattle.std.specs.Prelude.{IfSome}
use Rattle.std.proofs.lemmas.List.Sorted.{list_any-IsPermutation, IsPermutation-map}
use Rattle.gix_base.specs.declared.hash.ObjectId.{ObjectId}
use Rattle.gix_revwalk.specs.History.{History, Has, IsEdge, IsAncestor, is_one_of, same_id}
use Rattle.gix_revwalk.specs.History.IsAncestor.{itself, further}
use Rattle.gix_revwalk.specs.Walks.{added}
use Rattle.gix_revwalk.proofs.Ancestors.{anc-trans, has_ancestor}
use Rattle.gix_revwalk.proofs.Members.{one_of-head, one_of-tail, one_of-cons_cases, one_of-single, one_of-take_cases}
use Rattle.gix_merge_base.specs.Premises.{IsAcyclicFrom}
use Rattle.gix_merge_base.proofs.Reached.{acyclic_within}
use Rattle.gix_range.specs.Lines.{Extends, IsBelow, Joins, Leads, queued}
use Rattle.gix_range.proofs.Keeping.{added_cases, added_old, added_new}

pub first_is_one : (xs : List ObjectId) → IfSome (slice_get xs 0) (λ p. IsTrue (is_one_of xs p))
first_is_one [] = tt
first_is_one (x ∷ xs) = one_of-head x xs

-- the order of a queue does not matter
queued_same : {K : Type 0} (xs ys : List (K × ObjectId)) → IsPermutation xs ys → (c : ObjectId) → is_one_of (queued xs) c ≡ is_one_of (queued ys) c
queued_same xs ys perm c = list_any-IsPermutation (same_id c) (queued xs) (queued ys) (IsPermutation-map (λ end. end.1) xs ys perm)

pub none_queued : {K : Type 0} (xs : List (K × ObjectId)) (b : Bool) → b ≡ (length xs == 0) → b ≡ true → queued xs ≡ []
none_queued [] b is did = refl
none_queued (x ∷ xs) b is did =
    let z : length (x ∷ xs) ≡ 0 = (Decides-eqb (length (x ∷ xs)) 0).0 (sym is ∙ did) in
    absurd (omega (arith, z))

-- a commit that a line has begins no other one
pub extends_known : (h : History) (met ends : List ObjectId) (id : ObjectId) → IsTrue (is_one_of met id) → Extends h met ends id met ends
extends_known h met ends id known = record { known = rw known refl; stay = λ c k. k; new = inl known }

-- a line that joins another one has no end of its own
pub extends_joined : (h : History) (met met' ends : List ObjectId) (id : ObjectId) → is_one_of met id ≡ false → met' ≡ met ++ id ∷ [] → Joins h met id → Extends h met ends id met' ends
extends_joined h met met' ends id unknown pushed joins = record { known = rw unknown pushed; stay = λ c k. k; new = inr (inr joins) }

pub extends_new : {K : Type 0} (h : History) (met met' : List ObjectId) (ends ends' : List (K × ObjectId)) (key : K) (id : ObjectId) → is_one_of met id ≡ false → met' ≡ met ++ id ∷ []
    → IsPermutation ((key, id) ∷ ends) ends' → Extends h met (queued ends) id met' (queued ends')
extends_new h met met' ends ends' key id unknown pushed perm = record {
  known = rw unknown pushed;
  stay = λ c k. sym (queued_same ((key, id) ∷ ends) ends' perm c) ∙ one_of-tail id (queued ends) c k;
  new = inr (inl (sym (queued_same ((key, id) ∷ ends) ends' perm id) ∙ one_of-head id (queued ends)));
}

-- no line has begun
pub leads_none : (h : History) (ends : List ObjectId) → Leads h [] ends
leads_none h ends c k has acyclic = cc

-- the commit c reaches one of the ends, unless it reaches a cycle
abbrev ReachesEnd : History → (ends : List ObjectId) → ObjectId → Type 0
ReachesEnd h ends c = Has h c → IsAcyclicFrom h (c ∷ []) → (e : ObjectId) × IsTrue (is_one_of ends e) × IsAncestor h c e

acyclic_below : (h : History) (c d : ObjectId) → IsAncestor h c d → IsAcyclicFrom h (c ∷ []) → IsAcyclicFrom h (d ∷ [])
acyclic_below h c d down acyclic = acyclic_within h (d ∷ []) (c ∷ []) (λ x a. (c, one_of-head c [], anc-trans h c d x down (subst (λ z. IsAncestor h z x) (one_of-single d a.0 a.1) a.2))) acyclic

module _ (h : History) (met ends met' ends' : List ObjectId) (id : ObjectId) (did : Extends h met ends id met' ends') where
  pub met_more : (c : ObjectId) → IsTrue (is_one_of met c) → IsTrue (is_one_of met' c)
  met_more c k = subst (λ l. IsTrue (is_one_of l c)) (sym did.known) (added_old met id c k)

  -- what holds of each commit that was met, and of id, holds of each that is met
  met_each : (P : ObjectId → Type 0) → ((c : ObjectId) → IsTrue (is_one_of met c) → P c) → P id → (c : ObjectId) → IsTrue (is_one_of met' c) → P c
  met_each P old new c k = elim (added_cases met id c (subst (λ l. IsTrue (is_one_of l c)) did.known k)) as (λ _. P c) [
    | inl a ↦ old c a
    | inr is ↦ subst P (sym is) new
  ]

  -- the commit id reaches an end if each commit that it may join does
  new_leads : ((c : ObjectId) → IsTrue (is_one_of met c) → IsAncestor h id c → IsAcyclicFrom h (id ∷ []) → (e : ObjectId) × IsTrue (is_one_of ends' e) × IsAncestor h c e) → ReachesEnd h ends' id
  new_leads old has acyclic = elim did.new as (λ _. (e : ObjectId) × IsTrue (is_one_of ends' e) × IsAncestor h id e) [
    | inl known ↦ old id known (itself has) acyclic
    | inr (inl end) ↦ (id, end, itself has)
    | inr (inr joins) ↦
        let down : IsAncestor h id joins.0 = further id joins.0 (itself has) joins.1 in
        let r = old joins.0 joins.2 down acyclic in
        (r.0, r.1, anc-trans h id joins.0 r.0 down r.2)
  ]

  pub leads_begin : Leads h met ends → Leads h met' ends'
  leads_begin at = met_each (ReachesEnd h ends')
      (λ c k has acyclic. let r = at c k has acyclic in (r.0, did.stay r.0 r.1, r.2))
      (new_leads (λ c k down acyclic. let r = at c k (has_ancestor h id c down).0 (acyclic_below h id c down acyclic) in (r.0, did.stay r.0 r.1, r.2)))

  -- the line that ended at last goes on to its parent id
  module _ (last : ObjectId) (edge : IsEdge h last id) (at : Leads h met (last ∷ ends)) where
    -- no line that leads down from id ends at last
    below_leads : (c : ObjectId) → IsTrue (is_one_of met c) → IsAncestor h id c → IsAcyclicFrom h (id ∷ []) → (e : ObjectId) × IsTrue (is_one_of ends' e) × IsAncestor h c e
    below_leads c k down acyclic =
        let r = at c k (has_ancestor h id c down).0 (acyclic_below h id c down acyclic) in
        elim (one_of-cons_cases last ends r.0 r.1) as (λ _. (e : ObjectId) × IsTrue (is_one_of ends' e) × IsAncestor h c e) [
          | inr rest ↦ (r.0, did.stay r.0 rest, r.2)
          | inl is ↦
              let back : IsAncestor h id last = anc-trans h id c last down (subst (IsAncestor h c) is r.2) in
              absurd (acyclic last id (id, one_of-head id [], back) edge back)
        ]

    old_leads : (c : ObjectId) → IsTrue (is_one_of met c) → ReachesEnd h ends' c
    old_leads c k has acyclic =
        let r = at c k has acyclic in
        elim (one_of-cons_cases last ends r.0 r.1) as (λ _. (e : ObjectId) × IsTrue (is_one_of ends' e) × IsAncestor h c e) [
          | inr rest ↦ (r.0, did.stay r.0 rest, r.2)
          | inl is ↦
              let down : IsAncestor h c id = further last id (subst (IsAncestor h c) is r.2) edge in
              let s = new_leads below_leads edge.1 (acyclic_below h c id down acyclic) in
              (s.0, s.1, anc-trans h c id s.0 down s.2)
        ]

    pub leads_follow : Leads h met' ends'
    leads_follow = met_each (ReachesEnd h ends') old_leads (new_leads below_leads)

-- the next of the ids is met
pub begun_next : (ids met met' : List ObjectId) (i : ℕ) (d : ObjectId) → i < length ids → met' ≡ added met (get_or ids i d)
    → ((c : ObjectId) → IsTrue (is_one_of (take i ids) c) → IsTrue (is_one_of met c)) → (c : ObjectId) → IsTrue (is_one_of (take (i + 1) ids) c) → IsTrue (is_one_of met' c)
begun_next ids met met' i d lt is at c k = subst (λ l. IsTrue (is_one_of l c)) (sym is) (elim (one_of-take_cases ids i d c lt k) as (λ _. IsTrue (is_one_of (added met (get_or ids i d)) c)) [
  | inl a ↦ added_old met (get_or ids i d) c (at c a)
  | inr b ↦ subst (λ z. IsTrue (is_one_of (added met (get_or ids i d)) z)) (sym b) (added_new met (get_or ids i d))
])

-- the end that leaves the queue
pub leads_popped : {K : Type 0} (h : History) (met : List ObjectId) (ends ends' : List (K × ObjectId)) (key : K) (id : ObjectId) → IsPermutation ends ((key, id) ∷ ends') → Leads h met (queued ends) → Leads h met (id ∷ queued ends')
leads_popped h met ends ends' key id perm at c k has acyclic = let r = at c k has acyclic in (r.0, sym (queued_same ends ((key, id) ∷ ends') perm r.0) ∙ r.1, r.2)

-- all lines have become one
pub below_last : (h : History) (ids met ends : List ObjectId) (last z : ObjectId) → ends ≡ [] → IsEdge h last z → ((c : ObjectId) → IsTrue (is_one_of ids c) → IsTrue (is_one_of met c)) → Leads h met (last ∷ ends) → IsBelow h ids z
below_last h ids met ends last z none edge begun at c k has acyclic back =
    let r = at c (begun c k) has acyclic in
    let is = one_of-single last r.0 (subst (λ l. IsTrue (is_one_of (last ∷ l) r.0)) none r.1) in
    let reach : IsAncestor h c last = subst (IsAncestor h c) is r.2 in
    acyclic last z (c, one_of-head c [], reach) edge (anc-trans h z c last back reach)
