-- A file's history, and behind it that of newer commits.
use Rattle.std.proofs.Common.{◌≡◌, ◌≤◌, ◌^◌, ◌-◌, ◌⊎◌, inl, inr, [], ◌∷◌, ◌++◌, Option, Some, None, is_some, cond, Bool, true, false, IsTrue, refl, sym, ap, ◌∙◌, subst, arith}
use Rattle.gix_base.specs.declared.hash.ObjectId.{ObjectId}
use Rattle.gix_revwalk.specs.History.{History, Entry, Has, IsEdge, IsAncestor, IsAcyclic, GenerationsNeverRise, entry_at, same_id, is_one_of, parents_in, generation_in, generation_of}
use Rattle.gix_revwalk.specs.History.IsAncestor.{itself, further}
use Rattle.gix_commitgraph.specs.FileLevels.{IsLevelled}
use Rattle.gix_revwalk.specs.Generations.{HasNoGenerations}
use Rattle.gix_commitgraph.proofs.Falling.{fall-acyclic}

one-has : (b : Bool) (v : Entry) (o p : Option Entry) → (IsTrue (is_some o) → p ≡ o) → IsTrue (is_some (cond b (Some v) o)) → cond b (Some v) p ≡ cond b (Some v) o
one-has true v o p more has = refl
one-has false v o p more has = more has

one-lacks : (b : Bool) (v : Entry) (o p q : Option Entry) → (o ≡ None → p ≡ q) → cond b (Some v) o ≡ None → cond b (Some v) p ≡ q
one-lacks true v o p q more none = cc
one-lacks false v o p q more none = more none

-- what the first has the two have
pub first-has : (h k : History) (id : ObjectId) → Has h id → entry_at (h ++ k) id ≡ entry_at h id
first-has [] k id has = let wrong : false ≡ true = has in cc
first-has (x ∷ h) k id has = one-has (same_id id x.0) x.1 (entry_at h id) (entry_at (h ++ k) id) (first-has h k id) has

-- what the first lacks is the second's
pub first-lacks : (h k : History) (id : ObjectId) → entry_at h id ≡ None → entry_at (h ++ k) id ≡ entry_at k id
first-lacks [] k id none = refl
first-lacks (x ∷ h) k id none = one-lacks (same_id id x.0) x.1 (entry_at h id) (entry_at (h ++ k) id) (entry_at k id) (first-lacks h k id) none

pub has-or-lacks : (o : Option Entry) → IsTrue (is_some o) ⊎ (o ≡ None)
has-or-lacks None = inr refl
has-or-lacks (Some e) = inl refl

module _ (h k : History) (levelled : IsLevelled h) where
  -- of a commit of the file all parents are the file's
  inside : (a b : ObjectId) → Has h a → IsEdge (h ++ k) a b → IsEdge h a b
  inside a b has e =
      let P : Option Entry → Type 0 = λ o. IsTrue (is_one_of (parents_in o) b) in
      let parent : IsTrue (is_one_of (parents_in (entry_at h a)) b) = subst P (first-has h k a has) e.0 in
      (parent, levelled.closed a b parent)

  stays : (a c : ObjectId) → Has h a → IsAncestor (h ++ k) a c → IsAncestor h a c
  stays a c has (itself all) = itself has
  stays a c has (further b c' p e) =
      let q = stays a b has p in
      further b c q (inside b c (last-has a b q) e)
    where
      last-has : (x y : ObjectId) → IsAncestor h x y → Has h y
      last-has x y (itself here) = here
      last-has x y (further z y' p e) = e.1

  -- an edge between two commits that the file lacks is one of the newer commits
  outside : (a b : ObjectId) → entry_at h a ≡ None → entry_at h b ≡ None → IsEdge (h ++ k) a b → IsEdge k a b
  outside a b lacks-a lacks-b e =
      let P : Option Entry → Type 0 = λ o. IsTrue (is_one_of (parents_in o) b) in
      let Q : Option Entry → Type 0 = λ o. IsTrue (is_some o) in
      (subst P (first-lacks h k a lacks-a) e.0, subst Q (first-lacks h k b lacks-b) e.1)

  no-longer : {A : Type 0} (id : ObjectId) → Has h id → entry_at h id ≡ None → A
  no-longer id has none = let wrong : true ≡ false = sym has ∙ ap is_some none in cc

  leaves : (a c : ObjectId) → entry_at h c ≡ None → IsAncestor (h ++ k) a c → IsAncestor k a c
  leaves a c lacks (itself all) = let Q : Option Entry → Type 0 = λ o. IsTrue (is_some o) in itself (subst Q (first-lacks h k a lacks) all)
  leaves a c lacks (further b c' p e) =
      elim (has-or-lacks (entry_at h b)) [
        | inl has ↦ no-longer c (inside b c has e).1 lacks
        | inr none ↦ further b c (leaves a b none p) (outside b c none lacks e)
      ]

  pub joined-acyclic : IsAcyclic k → IsAcyclic (h ++ k)
  joined-acyclic acyclic a b e p =
      elim (has-or-lacks (entry_at h a)) [
        | inl has ↦ let f = inside a b has e in fall-acyclic h levelled.fall a b f (stays b a f.1 p)
        | inr none ↦ elim (has-or-lacks (entry_at h b)) [
          | inl has ↦ no-longer a (ends b a (stays b a has p)) none
          | inr lacks ↦ acyclic a b (outside a b none lacks e) (leaves b a none p)
        ]
      ]
    where
      ends : (x y : ObjectId) → IsAncestor h x y → Has h y
      ends x y (itself here) = here
      ends x y (further z y' p e) = e.1

  -- a commit that the file has counts less than one that it lacks
  counts : HasNoGenerations k → (a : ObjectId) → generation_of (h ++ k) a ≤ 2 ^ 32 - 1
  counts none a =
      elim (has-or-lacks (entry_at h a)) [
        | inl has ↦ let e = ap generation_in (first-has h k a has) in let b = levelled.known a has in omega arith
        | inr lacks ↦ let e = ap generation_in (first-lacks h k a lacks) in let b = none a in omega arith
      ]

  pub joined-never_rise : HasNoGenerations k → GenerationsNeverRise (h ++ k)
  joined-never_rise none a b e =
      elim (has-or-lacks (entry_at h a)) [
        | inl has ↦
            let f = inside a b has e in
            let own = ap generation_in (first-has h k a has) in
            let to = ap generation_in (first-has h k b f.1) in
            let less = levelled.fall a b f in
            omega arith
        | inr lacks ↦
            let own = ap generation_in (first-lacks h k a lacks) in
            let top = none a in
            let most = counts none b in
            omega arith
      ]
