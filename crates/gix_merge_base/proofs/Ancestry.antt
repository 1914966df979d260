-- The walk that tells whether one commit reaches another.
use Rattle.std.proofs.Common.{◌≡◌, ◌<◌, ◌≤◌, Bool, false, refl, sym, subst, ◌∙◌, List, [], ◌∷◌, ◌⊎◌, inl, inr, IsTrue, is_some, ◌↔◌, arith}
use Rattle.std.specs.List.Sorted.{IsPermutation}
use Rattle.std.proofs.lemmas.List.Sorted.{list_any-IsPermutation}
use Rattle.gix_base.specs.declared.hash.ObjectId.{ObjectId}
use Rattle.gix_revwalk.specs.History.{History, Has, IsEdge, entry_at, parents_in, is_one_of, same_id, IsAncestor, generation_of}
use Rattle.gix_revwalk.specs.History.IsAncestor.{itself, further}
use Rattle.gix_revwalk.proofs.Members.{one_of-head, one_of-tail, one_of-cons_cases, one_of-single}
use Rattle.gix_revwalk.proofs.Ancestors.{anc-trans, anc-edge, has_ancestor}
use Rattle.gix_merge_base.specs.Keys.{KeyAtMost}
use Rattle.gix_merge_base.specs.Marks.{MarkSet, marks_in, met}
use Rattle.gix_merge_base.specs.PaintSteps.{Hands}
use Rattle.gix_merge_base.specs.Premises.{GenerationsNeverRiseFrom}
use Rattle.gix_merge_base.specs.ReduceSteps.{Unmarked}
use Rattle.gix_merge_base.proofs.Reduction.{hands_has, unmarked_none, generations_along}

-- a commit reaches itself exactly where the history has it
pub itself_reached : (h : History) (a b : ObjectId) → a ≡ b → (answer : Bool) → answer ≡ is_some (entry_at h b) → IsTrue answer ↔ IsAncestor h b a
itself_reached h a b same answer is = (λ k. subst (IsAncestor h b) (sym same) (itself (sym is ∙ k)), λ reached. is ∙ (has_ancestor h b a reached).1)

-- between two pops: what is met, and what of it is queued
pub record Climbing (h : History) (start : ObjectId) (m : ObjectId → MarkSet) (q : List ObjectId) : Type 0 where
  pub begun : IsTrue (m start).stale
  pub sound : (c : ObjectId) → IsTrue (m c).stale → IsAncestor h start c
  pub queued : (c : ObjectId) → IsTrue (is_one_of q c) → IsTrue (m c).stale
  -- what is met is queued, or its parents are met
  pub settled : (c : ObjectId) → IsTrue (m c).stale → IsTrue (is_one_of q c) ⊎ ((p : ObjectId) → IsEdge h c p → IsTrue (m p).stale)
  pub has : (c : ObjectId) → 1 ≤ marks_in (m c) → Has h c

pub climb_begins : (h : History) (start : ObjectId) (m m' : ObjectId → MarkSet) (q' : List ObjectId) → Unmarked m → Has h start → Hands h met (start ∷ []) m [] m' q' → Climbing h start m' q'
climb_begins h start m m' q' none has did = record {
  begun = (did.gets start (one_of-head start []) has).stale refl;
  sound = λ c k. elim (did.stale c k) as (λ _. IsAncestor h start c) [
    | inl x ↦ let e = (none c).2 in cc
    | inr y ↦ subst (IsAncestor h start) (sym (one_of-single start c y.1)) (itself has)
  ];
  queued = λ c k. elim (did.from c k) as (λ _. IsTrue (m' c).stale) [ inl x ↦ cc | inr y ↦ y.2.stale refl ];
  settled = λ c k. inl (elim (did.changed c) as (λ _. IsTrue (is_one_of q' c)) [ inl e ↦ let x : IsTrue (m c).stale = subst (λ z. IsTrue z.stale) e k in let n = (none c).2 in cc | inr x ↦ x ]);
  has = hands_has h met (start ∷ []) m m' [] q' did (λ c k. absurd (unmarked_none m none c k));
}

pub climb_permuted : (h : History) (start : ObjectId) (m : ObjectId → MarkSet) (q q' : List ObjectId) → IsPermutation q q' → Climbing h start m q → Climbing h start m q'
climb_permuted h start m q q' perm at =
    let inside : (c : ObjectId) → is_one_of q c ≡ is_one_of q' c = λ c. list_any-IsPermutation (same_id c) q q' perm in
    record {
      begun = at.begun;
      sound = at.sound;
      queued = λ c k. at.queued c (inside c ∙ k);
      settled = λ c k. elim (at.settled c k) as (λ _. IsTrue (is_one_of q' c) ⊎ ((p : ObjectId) → IsEdge h c p → IsTrue (m p).stale)) [ inl x ↦ inl (sym (inside c) ∙ x) | inr y ↦ inr y ];
      has = at.has;
    }

-- a pop, after which the parents are met
pub climb_goes : (h : History) (start c : ObjectId) (m m' : ObjectId → MarkSet) (q q' : List ObjectId) → Climbing h start m (c ∷ q) → Hands h met (parents_in (entry_at h c)) m q m' q' → Climbing h start m' q'
climb_goes h start c m m' q q' at did = record {
  begun = (did.more start).stale at.begun;
  sound = λ p k. elim (did.stale p k) as (λ _. IsAncestor h start p) [
    | inl x ↦ at.sound p x
    | inr y ↦ further c p (at.sound c (at.queued c (one_of-head c q))) (y.1, y.2)
  ];
  queued = λ p k. elim (did.from p k) as (λ _. IsTrue (m' p).stale) [ inl x ↦ (did.more p).stale (at.queued p (one_of-tail c q p x)) | inr y ↦ y.2.stale refl ];
  settled = λ p k. elim (did.changed p) as (λ _. IsTrue (is_one_of q' p) ⊎ ((r : ObjectId) → IsEdge h p r → IsTrue (m' r).stale)) [
    | inr x ↦ inl x
    | inl e ↦ elim (at.settled p (subst (λ z. IsTrue z.stale) e k)) as (λ _. IsTrue (is_one_of q' p) ⊎ ((r : ObjectId) → IsEdge h p r → IsTrue (m' r).stale)) [
      | inl x ↦ elim (one_of-cons_cases c q p x) as (λ _. IsTrue (is_one_of q' p) ⊎ ((r : ObjectId) → IsEdge h p r → IsTrue (m' r).stale)) [
        | inl is ↦ inr (λ r edge. (did.gets r (subst (λ z. IsTrue (is_one_of (parents_in (entry_at h z)) r)) is edge.0) edge.1).stale refl)
        | inr y ↦ inl (did.stay p y)
      ]
      | inr x ↦ inr (λ r edge. (did.more r).stale (x r edge))
    ]
  ];
  has = hands_has h met (parents_in (entry_at h c)) m m' q q' did at.has;
}

-- what is newly held, once the parents of a queued commit are taken in
pub takes_more : (h : History) (start c : ObjectId) (m : ObjectId → MarkSet) (q : List ObjectId) → Climbing h start m (c ∷ q) → (began old new : ObjectId → Type 0)
    → ((p : ObjectId) → old p → began p ⊎ IsAncestor h start p) → ((p : ObjectId) → new p → old p ⊎ (IsTrue (is_one_of (parents_in (entry_at h c)) p) × Has h p))
    → (p : ObjectId) → new p → began p ⊎ IsAncestor h start p
takes_more h start c m q at began old new before holds p k = elim (holds p k) as (λ _. began p ⊎ IsAncestor h start p) [
  | inl a ↦ before p a
  | inr e ↦ inr (further c p (at.sound c (at.queued c (one_of-head c q))) e)
]

-- once the start, or the target and then the start, were looked up
pub takes_start : (h : History) (start : ObjectId) (q : ObjectId) → IsTrue (is_one_of (start ∷ []) q) × Has h q → IsAncestor h start q
takes_start h start q k = let is = one_of-single start q k.0 in subst (IsAncestor h start) (sym is) (itself (subst (Has h) is k.1))

pub takes_ends : (h : History) (start target : ObjectId) (began first second : ObjectId → Type 0) → ((q : ObjectId) → first q → began q ⊎ (IsTrue (is_one_of (target ∷ []) q) × Has h q))
    → ((q : ObjectId) → second q → first q ⊎ (IsTrue (is_one_of (start ∷ []) q) × Has h q)) → (q : ObjectId) → second q → began q ⊎ ((q ≡ target) ⊎ IsAncestor h start q)
takes_ends h start target began first second one two q k = elim (two q k) as (λ _. began q ⊎ ((q ≡ target) ⊎ IsAncestor h start q)) [
  | inl a ↦ elim (one q a) as (λ _. began q ⊎ ((q ≡ target) ⊎ IsAncestor h start q)) [ inl b ↦ inl b | inr e ↦ inr (inl (one_of-single target q e.0)) ]
  | inr e ↦ inr (inr (takes_start h start q e))
]

-- all that is queued lies below the target: each commit on a path to it is met
climb_down : (h : History) (start target : ObjectId) (m : ObjectId → MarkSet) (q : List ObjectId) → Climbing h start m q → ((c : ObjectId) → IsTrue (is_one_of q c) → generation_of h c < generation_of h target)
    → GenerationsNeverRiseFrom h (start ∷ []) → (b : ObjectId) → IsAncestor h start b → IsAncestor h b target → IsTrue (m b).stale
climb_down h start target m q at below hold b (itself has) leads = at.begun
climb_down h start target m q at below hold b (further a b' p e) leads =
    let up = anc-trans h a b target (anc-edge h a b (has_ancestor h start a p).0 e) leads in
    elim (at.settled a (climb_down h start target m q at below hold a p up)) as (λ _. IsTrue (m b).stale) [
      | inl x ↦ let less = below a x in let high = generations_along h (start ∷ []) hold a target (start, one_of-head start [], p) up in absurd (omega arith)
      | inr x ↦ x b e
    ]

-- so what is not met then is not reached
pub climb_ends : (h : History) (start target : ObjectId) (m : ObjectId → MarkSet) (q : List ObjectId) → Climbing h start m q → ((c : ObjectId) → IsTrue (is_one_of q c) → generation_of h c < generation_of h target)
    → (m target).stale ≡ false → GenerationsNeverRiseFrom h (start ∷ []) → IsTrue false ↔ IsAncestor h start target
climb_ends h start target m q at below out hold = (
  λ k. cc,
  λ reached. sym out ∙ climb_down h start target m q at below hold target reached (itself (has_ancestor h start target reached).0),
)

-- a greatest key of a smaller generation
pub all_below : (h : History) (id target : ObjectId) (q : List ObjectId) → generation_of h id < generation_of h target → ((z : ObjectId) → IsTrue (is_one_of q z) → KeyAtMost h z id)
    → (z : ObjectId) → IsTrue (is_one_of q z) → generation_of h z < generation_of h target
all_below h id target q low top z k = elim (top z k) as (λ _. generation_of h z < generation_of h target) [ inl a ↦ omega arith | inr e ↦ let same = e.0 in omega arith ]
