-- What calls newly hold, one after another.
use Rattle.std.proofs.Common.{◌≡◌, List, [], ◌∷◌, ◌⊎◌, inl, inr, IsTrue, is_some, sym, subst, ◌∙◌}
use Rattle.std.specs.List.{filter}
use Rattle.gix_base.specs.declared.hash.ObjectId.{ObjectId}
use Rattle.gix_revwalk.specs.Graph.{Graphed, held_ids}
use Rattle.gix_revwalk.specs.History.{History, entry_at, parents_in, is_one_of, IsAncestor, IsAncestorOfOne}
use Rattle.gix_revwalk.specs.History.IsAncestor.{itself, further}
use Rattle.gix_revwalk.specs.Walks.{HoldsMore}
use Rattle.gix_revwalk.proofs.Ancestors.{anc-trans, anc-edge}
use Rattle.gix_revwalk.proofs.Members.{one_of-head, one_of-tail, one_of-cons_cases, one_of-single}
use Rattle.gix_merge_base.specs.AfterCall.{LoadsFrom}
use Rattle.gix_merge_base.specs.Bases.{IsCommon}
use Rattle.gix_merge_base.specs.Marks.{MarkSet}
use Rattle.gix_merge_base.specs.Painting.{IsHandedIn, MayBeMet, MayBeMetFrom, AreFrom}
use Rattle.gix_merge_base.specs.PaintQueue.{IsHeld}
use Rattle.gix_merge_base.specs.Reducing.{firsts}
use Rattle.gix_merge_base.specs.ReduceSteps.{Reducing}
use Rattle.gix_merge_base.proofs.Listed.{known-inside}
use Rattle.gix_merge_base.proofs.QueueKeys.{held-same}
use Rattle.gix_merge_base.proofs.Reduction.{firsts_has, has_parents}

-- what is one of ids or below one, where xs are such
pub from_within : (h : History) (ids xs : List ObjectId) → AreFrom h ids xs → (q : ObjectId) → MayBeMetFrom h xs q → MayBeMetFrom h ids q
from_within h ids xs within q k = elim k as (λ _. MayBeMetFrom h ids q) [
  | inl one ↦ within q one
  | inr below ↦ elim (within below.0 below.1) as (λ _. MayBeMetFrom h ids q) [
    | inl is ↦ inr (below.0, is, below.2)
    | inr up ↦ inr (up.0, up.1, anc-trans h up.0 below.0 q up.2 below.2)
  ]
]

-- ids that are among others
pub from_among : (h : History) (ids xs : List ObjectId) → ((x : ObjectId) → IsTrue (is_one_of xs x) → IsTrue (is_one_of ids x)) → AreFrom h ids xs
from_among h ids xs among x k = inl (among x k)

pub handed_in : (f : ObjectId) (os : List ObjectId) (q : ObjectId) → IsHandedIn f os q → IsTrue (is_one_of (f ∷ os) q)
handed_in f os q k = elim k as (λ _. IsTrue (is_one_of (f ∷ os) q)) [
  | inl is ↦ subst (λ z. IsTrue (is_one_of (f ∷ os) z)) (sym is) (one_of-head f os)
  | inr one ↦ one_of-tail f os q one
]

-- the two ways to say where what is met lies
pub met_from : (h : History) (f : ObjectId) (os : List ObjectId) (q : ObjectId) → MayBeMet h f os q → MayBeMetFrom h (f ∷ os) q
met_from h f os q k = elim k as (λ _. MayBeMetFrom h (f ∷ os) q) [
  | inl one ↦ inl (handed_in f os q one)
  | inr below ↦ elim below as (λ _. MayBeMetFrom h (f ∷ os) q) [
    | inl a ↦ inr (f, one_of-head f os, a)
    | inr b ↦ inr (b.0, one_of-tail f os b.0 b.1, b.2)
  ]
]

pub from_met : (h : History) (f : ObjectId) (os : List ObjectId) (q : ObjectId) → MayBeMetFrom h (f ∷ os) q → MayBeMet h f os q
from_met h f os q k = elim k as (λ _. MayBeMet h f os q) [
  | inl one ↦ inl (one_of-cons_cases f os q one)
  | inr below ↦ elim (one_of-cons_cases f os below.0 below.1) as (λ _. MayBeMet h f os q) [
    | inl is ↦ inr (inl (subst (λ z. IsAncestor h z q) is below.2))
    | inr b ↦ inr (inr (below.0, b, below.2))
  ]
]

module _ {S T : Type 0} {h : History} {ids : List ObjectId} where
  -- nothing more is held
  pub loads_none : (m n : Graphed S T) → ((q : ObjectId) → IsHeld n q → IsHeld m q) → LoadsFrom h ids m n
  loads_none m n same = record { held = λ q k. inl (same q k) }

  pub loads_same : (m n : Graphed S T) → held_ids n ≡ held_ids m → LoadsFrom h ids m n
  loads_same m n same = record { held = λ q k. inl (sym (held-same m n same q) ∙ k) }

  -- a call after these
  pub loads_then : {m n o : Graphed S T} → LoadsFrom h ids m n → LoadsFrom h ids n o → LoadsFrom h ids m o
  loads_then {m} p r = record { held = λ q k. elim (r.held q k) as (λ _. IsHeld m q ⊎ MayBeMetFrom h ids q) [ inl a ↦ p.held q a | inr b ↦ inr b ] }

  -- a call for ids that are such
  pub loads_within : {m n : Graphed S T} (xs : List ObjectId) → AreFrom h ids xs → LoadsFrom h xs m n → LoadsFrom h ids m n
  loads_within {m} xs within p = record { held = λ q k. elim (p.held q k) as (λ _. IsHeld m q ⊎ MayBeMetFrom h ids q) [ inl a ↦ inl a | inr b ↦ inr (from_within h ids xs within q b) ] }

  -- one of the ids is taken in
  pub loads_one : (m n : Graphed S T) (id : ObjectId) → IsTrue (is_one_of ids id) → HoldsMore h (id ∷ []) m n → LoadsFrom h ids m n
  loads_one m n id one more = record {
    held = λ q k. elim (more q k) as (λ _. IsHeld m q ⊎ MayBeMetFrom h ids q) [
      | inl a ↦ inl a
      | inr e ↦ inr (inl (subst (λ z. IsTrue (is_one_of ids z)) (sym (one_of-single id q e.0)) one))
    ];
  }

  -- the parents of one of the ids are taken in
  pub loads_above : (m n : Graphed S T) (c : ObjectId) → IsTrue (is_one_of ids c) → HoldsMore h (parents_in (entry_at h c)) m n → LoadsFrom h ids m n
  loads_above m n c one more = record {
    held = λ q k. elim (more q k) as (λ _. IsHeld m q ⊎ MayBeMetFrom h ids q) [
      | inl a ↦ inl a
      | inr e ↦ inr (inr (c, one, further c q (itself (has_parents h c q e)) e))
    ];
  }

  -- the parents of one that lies below the ids are taken in
  pub loads_parents : (m n : Graphed S T) (c : ObjectId) → IsAncestorOfOne h ids c → HoldsMore h (parents_in (entry_at h c)) m n → LoadsFrom h ids m n
  loads_parents m n c below more = record {
    held = λ q k. elim (more q k) as (λ _. IsHeld m q ⊎ MayBeMetFrom h ids q) [
      | inl a ↦ inl a
      | inr e ↦ inr (inr (below.0, below.1, further c q below.2 e))
    ];
  }

-- the ids of a list, each once, and those of them that the history has
pub from_firsts : (h : History) (ids xs : List ObjectId) → xs ≡ firsts ids → AreFrom h ids xs
from_firsts h ids xs is x k = inl ((firsts_has ids x).0 (subst (λ l. IsTrue (is_one_of l x)) is k))

pub from_known : (h : History) (ids xs : List ObjectId) → xs ≡ filter (λ p. is_some (entry_at h p)) (firsts ids) → AreFrom h ids xs
from_known h ids xs is x k = inl (known-inside h ids xs is x k)

-- one of the ids, and one in front of such as are from them
pub from_single : (h : History) (x : ObjectId) (ids : List ObjectId) → IsTrue (is_one_of ids x) → AreFrom h ids (x ∷ [])
from_single h x ids one q k = inl (subst (λ z. IsTrue (is_one_of ids z)) (sym (one_of-single x q k)) one)

pub from_cons : (h : History) (x : ObjectId) (ids xs : List ObjectId) → IsTrue (is_one_of ids x) → AreFrom h ids xs → AreFrom h ids (x ∷ xs)
from_cons h x ids xs one within q k = elim (one_of-cons_cases x xs q k) as (λ _. MayBeMetFrom h ids q) [
  | inl is ↦ inl (subst (λ z. IsTrue (is_one_of ids z)) (sym is) one)
  | inr m ↦ within q m
]

-- common ancestors
pub from_common : (h : History) (f : ObjectId) (os xs : List ObjectId) → ((c : ObjectId) → IsTrue (is_one_of xs c) → IsCommon h f os c) → AreFrom h (f ∷ os) xs
from_common h f os xs common x k = inr (f, one_of-head f os, (common x k).0)

-- what the reduction has queued lies below one of the ids
pub reducing_below : (h : History) (ids : List ObjectId) (m : ObjectId → MarkSet) (q : List ObjectId) → Reducing h ids m q → (c : ObjectId) → IsTrue (is_one_of q c) → IsAncestorOfOne h ids c
reducing_below h ids m q at c k =
    let below = at.sound c (at.queued c k) in
    let r = below.0 in
    (r, below.1, anc-trans h r below.2 c (anc-edge h r below.2 (has_parents h r below.2 below.3) below.3) below.4)

-- what a call loads, as its contract says it
pub met_of_loads : {S T : Type 0} {h : History} {f : ObjectId} {os : List ObjectId} {m n : Graphed S T} → LoadsFrom h (f ∷ os) m n → (q : ObjectId) → IsHeld n q → IsHeld m q ⊎ MayBeMet h f os q
met_of_loads {h = h} {f = f} {os = os} {m = m} p q k = elim (p.held q k) as (λ _. IsHeld m q ⊎ MayBeMet h f os q) [ inl a ↦ inl a | inr b ↦ inr (from_met h f os q b) ]

pub loads_of_met : {S T : Type 0} (h : History) (f : ObjectId) (os : List ObjectId) (m n : Graphed S T) → ((q : ObjectId) → IsHeld n q → IsHeld m q ⊎ MayBeMet h f os q) → LoadsFrom h (f ∷ os) m n
loads_of_met h f os m n p = record { held = λ q k. elim (p q k) as (λ _. IsHeld m q ⊎ MayBeMetFrom h (f ∷ os) q) [ inl a ↦ inl a | inr b ↦ inr (met_from h f os q b) ] }
