-- What painting gives at its end, and what a pop under falling keys knows.
use Rattle.std.proofs.Common.{◌≡◌, Bool, true, false, cond, refl, ap, sym, subst, List, [], ◌∷◌, ◌++◌, ◌⊎◌, inl, inr, ◌||◌, ◌&&◌, not, IsTrue, length}
use Rattle.std.proofs.lemmas.Map.Made.{length-le_from_is_member}
use Rattle.gix_base.specs.declared.hash.ObjectId.{ObjectId}
use Rattle.gix_revwalk.specs.History.{History, entry_at, parents_in, Has, IsEdge, IsAncestor, IsAncestorOfOne, is_one_of}
use Rattle.gix_revwalk.specs.History.IsAncestor.{itself, further}
use Rattle.gix_merge_base.specs.Keys.{KeyBelow, KeyAtMost, InFallingOrder}
use Rattle.gix_merge_base.specs.Premises.{IsAcyclicFrom, KeysFallFrom, NoneRisesFrom}
use Rattle.gix_merge_base.specs.Bases.{IsCommon, IsMaximal}
use Rattle.gix_merge_base.specs.Painting.{IsReached, IsUnreached, IsOutside, MayBeTaken}
use Rattle.gix_revwalk.specs.Sizes.{AtMost}
use Rattle.gix_merge_base.specs.Marks.{MarkSet, handed_on, becomes_result}
use Rattle.gix_merge_base.specs.PaintSteps.{Hands, results_after, Notes}
use Rattle.gix_revwalk.proofs.Ids.{same_id-laws}
use Rattle.gix_revwalk.proofs.Members.{one_of-cases, one_of-single, one_of-head, one_of-tail}
use Rattle.gix_revwalk.proofs.Ancestors.{anc-trans, anc-edge}
use Rattle.gix_merge_base.proofs.KeyOrder.{before-trans, at_most-trans, not_above, rises_not, falls_along, falling_push}
use Rattle.gix_merge_base.proofs.Painting.{Handed, Painting, last, and_both, and_pair, or_right, grew, marked_reached, reached_one}

-- where each commit that properly leads to c was popped with the marks that it has, c has all its marks
module _ (h : History) (f : ObjectId) (os : List ObjectId) (m : ObjectId → MarkSet) (q results popped : List ObjectId)
    (at : Painting h f os m q results popped) (c : ObjectId)
    (handed : (a b : ObjectId) → IsAncestorOfOne h (f ∷ os) a → IsEdge h a b → IsAncestor h b c → Handed h m results popped a) where
  one_to : (b : ObjectId) → IsAncestor h f b → IsAncestor h b c → IsTrue (m b).one
  one_to b (itself has) leads = at.first has
  one_to b (further a b' p e) leads = ((handed a b (f, one_of-head f os, p) e leads).gave b e).one (one_to a p (anc-trans h a b c (anc-edge h a b (last h f a p) e) leads))

  two_to : (o b : ObjectId) → IsTrue (is_one_of os o) → IsAncestor h o b → IsAncestor h b c → IsTrue (m b).two
  two_to o b in_os (itself has) leads = at.others o in_os has
  two_to o b in_os (further a b' p e) leads = ((handed a b (o, one_of-tail f os o in_os, p) e leads).gave b e).two (two_to o a in_os p (anc-trans h a b c (anc-edge h a b (last h o a p) e) leads))

  pub common_has_both : (b : ObjectId) → IsCommon h f os b → IsAncestor h b c → IsTrue (m b).one × IsTrue (m b).two
  common_has_both b common leads = (one_to b common.0 leads, two_to common.1.0 b common.1.1 common.1.2 leads)

  pub reached_has_one : (b : ObjectId) → IsReached h f os b → IsAncestor h b c → IsTrue (m b).one ⊎ IsTrue (m b).two
  reached_has_one b reached leads = elim reached as (λ _. IsTrue (m b).one ⊎ IsTrue (m b).two) [ inl p ↦ inl (one_to b p leads) | inr o ↦ inr (two_to o.0 b o.1 o.2 leads) ]

  -- what lies below a common ancestor is stale
  pub stale_below : (t b : ObjectId) → IsCommon h f os t → IsAncestor h t b → IsAncestor h b c → (t ≡ b) ⊎ IsTrue (m b).stale
  stale_below t b common (itself has) leads = inl refl
  stale_below t b common (further a b' p e) leads =
      let up = anc-trans h a b c (anc-edge h a b (last h t a p) e) leads in
      let gave = (handed a b (f, one_of-head f os, anc-trans h f t a common.0 p) e leads).gave b e in
      inr (gave.stale (elim (stale_below t a common p up) as (λ _. IsTrue (handed_on (m a)).stale) [
        | inl is ↦ or_right (m a).stale _ (let s = common_has_both a (subst (λ z. IsCommon h f os z) is common) up in and_pair (m a).one (m a).two s.0 s.1)
        | inr s ↦ ap (λ x. x || ((m a).one && (m a).two)) s
      ]))

-- at the end
module _ (h : History) (f : ObjectId) (os : List ObjectId) (m : ObjectId → MarkSet) (q results popped : List ObjectId)
    (acyclic : IsAcyclicFrom h (f ∷ os)) (at : Painting h f os m q results popped) (ended : (c : ObjectId) → IsTrue (is_one_of q c) → IsTrue (m c).stale) where
  -- nothing stale leads to c
  fresh : (c : ObjectId) → IsUnreached h f os c → (b : ObjectId) → IsAncestor h b c → IsTrue (m b).stale → ⊥
  fresh c u b leads s =
      let r = at.stale b s in
      let t = r.0 in
      let is : t ≡ c = u.1 t r.1 (anc-trans h t b c (anc-edge h t b (last h f t r.1.0) r.2) leads) in
      acyclic t b (f, one_of-head f os, r.1.0) r.2 (subst (λ z. IsAncestor h b z) (sym is) leads)

  handed_above : (c : ObjectId) → IsUnreached h f os c → (b : ObjectId) → IsAncestor h b c → Handed h m results popped b
  handed_above c u b leads = elim (at.settled b) as (λ _. Handed h m results popped b) [ inl k ↦ absurd (fresh c u b leads (ended b k)) | inr k ↦ k ]

  reached_has : (c : ObjectId) → IsReached h f os c → Has h c
  reached_has c r = elim r as (λ _. Has h c) [ inl p ↦ last h f c p | inr o ↦ last h o.0 c o.2 ]

  -- each ancestor that no other common one reaches was popped
  pub unreached_popped : (c : ObjectId) → IsUnreached h f os c → IsTrue (is_one_of popped c)
  unreached_popped c u =
      let here : IsAncestor h c c = itself (reached_has c u.0) in
      (handed_above c u c here).was (reached_has_one h f os m q results popped at c (λ a b reached e leads. handed_above c u a (anc-trans h a b c (anc-edge h a b (last h reached.0 a reached.2) e) leads)) c u.0 here)

  pub pops_enough : AtMost (length popped) (IsUnreached h f os)
  pops_enough xs distinct each = length-le_from_is_member same_id-laws xs popped distinct (λ c k. unreached_popped c (each c k))

  pub best_is_result : (c : ObjectId) → IsMaximal h (IsCommon h f os) c → IsTrue (is_one_of results c)
  best_is_result c max =
      let here : IsAncestor h c c = itself (last h f c max.0.0) in
      let u : IsUnreached h f os c = (inl max.0.0, max.1) in
      let s = common_has_both h f os m q results popped at c (λ a b reached e leads. handed_above c u a (anc-trans h a b c (anc-edge h a b (last h reached.0 a reached.2) e) leads)) c max.0 here in
      elim ((handed_above c u c here).result s.0 s.1) as (λ _. IsTrue (is_one_of results c)) [
        | inl old ↦ absurd (fresh c u c here old)
        | inr r ↦ r
      ]

-- under falling keys the marks of a commit are final when it is popped
module _ (h : History) (f : ObjectId) (os : List ObjectId) (m : ObjectId → MarkSet) (q results popped : List ObjectId)
    (falls : KeysFallFrom h (f ∷ os)) (at : Painting h f os m q results popped) (c : ObjectId) (top : (z : ObjectId) → IsTrue (is_one_of q z) → KeyAtMost h z c) where
  pub handed_before : (a b : ObjectId) → IsAncestorOfOne h (f ∷ os) a → IsEdge h a b → IsAncestor h b c → Handed h m results popped a
  handed_before a b reached e leads =
      let less : KeyBelow h c a = elim (falls_along h (f ∷ os) falls b c (reached.0, reached.1, further a b reached.2 e) leads) as (λ _. KeyBelow h c a) [
        | inl is ↦ subst (λ z. KeyBelow h z a) is (falls a b reached e)
        | inr k ↦ before-trans h c b a k (falls a b reached e)
      ] in
      elim (at.settled a) as (λ _. Handed h m results popped a) [ inl k ↦ absurd (not_above h a c (top a k) less) | inr k ↦ k ]

  pub final_both : IsCommon h f os c → IsTrue (m c).one × IsTrue (m c).two
  final_both common = common_has_both h f os m q results popped at c handed_before c common (itself (last h f c common.0))

  pub final_stale : (t : ObjectId) → IsCommon h f os t → IsAncestor h t c → (t ≡ c) ⊎ IsTrue (m c).stale
  final_stale t common leads = stale_below h f os m q results popped at c handed_before t c common leads (itself (last h t c leads))

-- each queued commit is stale, handed in, or a parent of an ancestor that is not common
abbrev pub Fresh : History → ObjectId → List ObjectId → (ObjectId → MarkSet) → List ObjectId → Type 0
Fresh h f os m q = (z : ObjectId) → IsTrue (is_one_of q z) → IsTrue (m z).stale ⊎ (Has h z × IsOutside h f os z)

-- results are in falling order, and nothing queued is above one
pub record Ordered (h : History) (q results : List ObjectId) : Type 0 where
  pub falling : InFallingOrder h results
  pub above : (r z : ObjectId) → IsTrue (is_one_of results r) → IsTrue (is_one_of q z) → KeyAtMost h z r

module _ (h : History) (f : ObjectId) (os : List ObjectId) (m m1 m2 : ObjectId → MarkSet) (c : ObjectId) (q q2 results popped : List ObjectId)
    (at : Painting h f os m (c ∷ q) results popped) (note : Notes m c m1) (did : Hands h (handed_on (m c)) (parents_in (entry_at h c)) m1 q m2 q2)
    (top : (z : ObjectId) → IsTrue (is_one_of (c ∷ q) z) → KeyAtMost h z c) where
  pub fresh_keeps : KeysFallFrom h (f ∷ os) → Fresh h f os m (c ∷ q) → Fresh h f os m2 q2
  fresh_keeps falls old z k =
      elim (did.from z k) as (λ _. IsTrue (m2 z).stale ⊎ (Has h z × IsOutside h f os z)) [
        | inl a ↦ elim (old z (one_of-tail c q z a)) as (λ _. IsTrue (m2 z).stale ⊎ (Has h z × IsOutside h f os z)) [
          | inl s ↦ inl ((grew h f os m m1 m2 c q q2 results popped at note did z).stale s)
          | inr o ↦ inr o
        ]
        | inr b ↦ elim (handed_on (m c)).stale as (λ s. (handed_on (m c)).stale ≡ s → IsTrue (m2 z).stale ⊎ (Has h z × IsOutside h f os z)) [
          | true ↦ λ e. inl (b.2.stale e)
          | false ↦ λ e. inr (
            b.1,
            inr (
              c,
              marked_reached h f os m (c ∷ q) results popped at c (at.queued c (one_of-head c q)),
              (λ common. let s = final_both h f os m (c ∷ q) results popped falls at c top common in
                  let t : IsTrue (handed_on (m c)).stale = or_right (m c).stale _ (and_pair (m c).one (m c).two s.0 s.1) in cc),
              (b.0, b.1),
            ),
          )
        ] refl
      ]

  -- under falling keys each result is maximal
  pub results_best : KeysFallFrom h (f ∷ os) → ((r : ObjectId) → IsTrue (is_one_of results r) → IsMaximal h (IsCommon h f os) r)
      → (r : ObjectId) → IsTrue (is_one_of (results_after m c results) r) → IsMaximal h (IsCommon h f os) r
  results_best falls old r k =
      elim (becomes_result (m c)) as (λ b. becomes_result (m c) ≡ b → IsTrue (is_one_of (cond b (results ++ c ∷ []) results) r) → IsMaximal h (IsCommon h f os) r) [
        | false ↦ λ e k'. old r k'
        | true ↦ λ e k'. elim (one_of-cases results (c ∷ []) r k') as (λ _. IsMaximal h (IsCommon h f os) r) [
          | inl a ↦ old r a
          | inr b ↦
              let p = and_both _ _ e in
              let p1 = and_both _ _ p.1 in
              let p2 = and_both _ _ p1.1 in
              let max : IsMaximal h (IsCommon h f os) c = (
                (at.one c p.0, at.two c p1.0),
                λ t common leads. elim (final_stale h f os m (c ∷ q) results popped falls at c top t common leads) as (λ _. t ≡ c) [
                  | inl is ↦ is
                  | inr s ↦ absurd (not_both (m c).stale s p2.0)
                ],
              ) in
              subst (λ z. IsMaximal h (IsCommon h f os) z) (sym (one_of-single c r b)) max
        ]
      ] refl k
    where
      not_both : (s : Bool) → IsTrue s → IsTrue (not s) → ⊥
      not_both true a b = cc
      not_both false a b = cc

  pub ordered_keeps : NoneRisesFrom h (f ∷ os) → Ordered h (c ∷ q) results → Ordered h q2 (results_after m c results)
  ordered_keeps none old = record {
    falling = elim (becomes_result (m c)) as (λ b. InFallingOrder h (cond b (results ++ c ∷ []) results)) [
      | true ↦ falling_push h results c old.falling (λ r k. old.above r c k (one_of-head c q))
      | false ↦ old.falling
    ];
    above = λ r z k j.
        let to_c : KeyAtMost h z c = elim (did.from z j) as (λ _. KeyAtMost h z c) [
          | inl a ↦ top z (one_of-tail c q z a)
          | inr b ↦ rises_not h (f ∷ os) none c z (reached_one h f os c (marked_reached h f os m (c ∷ q) results popped at c (at.queued c (one_of-head c q)))) (b.0, b.1)
        ] in
        elim (becomes_result (m c)) as (λ b. IsTrue (is_one_of (cond b (results ++ c ∷ []) results) r) → KeyAtMost h z r) [
          | false ↦ λ k'. at_most-trans h z c r to_c (old.above r c k' (one_of-head c q))
          | true ↦ λ k'. elim (one_of-cases results (c ∷ []) r k') as (λ _. KeyAtMost h z r) [
            | inl a ↦ at_most-trans h z c r to_c (old.above r c a (one_of-head c q))
            | inr b ↦ subst (λ y. KeyAtMost h z y) (sym (one_of-single c r b)) to_c
          ]
        ] k;
  }

  -- a parent that is taken in at this pop may be taken
  pub parents_may : Fresh h f os m (c ∷ q) → (z : ObjectId) → IsTrue (is_one_of (c ∷ q) z) → (m z).stale ≡ false → (p : ObjectId) → IsEdge h c p → MayBeTaken h f os p
  parents_may old z k unstale p e =
      elim (old z k) as (λ _. MayBeTaken h f os p) [
        | inl s ↦ cc
        | inr o ↦ inr (c, marked_reached h f os m (c ∷ q) results popped at c (at.queued c (one_of-head c q)), e, z, o.0, o.1, top z k)
      ]
