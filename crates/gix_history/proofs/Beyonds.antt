-- A history that comes before another one.
use Rattle.std.proofs.Common.{◌≡◌, suc, List, [], ◌∷◌, ◌++◌, Option, Some, is_some, inl, inr, IsTrue, sym, ap, ◌∙◌, subst, arith}
use Rattle.std.specs.List.{All}
use Rattle.gix_base.specs.declared.hash.ObjectId.{ObjectId}
use Rattle.gix_revwalk.specs.History.{History, Entry, Has, IsEdge, IsAncestor, IsAncestorOfOne, entry_at, generation_in, is_one_of, parents_in}
use Rattle.gix_revwalk.specs.History.IsAncestor.{itself, further}
use Rattle.gix_revwalk.proofs.Members.{one_of-cons_cases}
use Rattle.gix_merge_base.specs.Premises.{IsAcyclicFrom, GenerationsNeverRiseFrom}
use Rattle.gix_object.specs.Authentic.{Agree}
use Rattle.gix_object.proofs.Determined.{reaches-same}
use Rattle.gix_commitgraph.specs.FileLevels.{IsLevelled}
use Rattle.gix_commitgraph.proofs.Falling.{fall-acyclic}
use Rattle.gix_commitgraph.proofs.Joins.{first-has}

-- A commit of the first history is that of both together.
pub found-on : (h k : History) (id : ObjectId) (e : Entry) → Some e ≡ entry_at h id → Some e ≡ entry_at (h ++ k) id
found-on h k id e is = is ∙ sym (first-has h k id (ap is_some (sym is)))

of-member : (P : ObjectId → Type 0) (xs : List ObjectId) (q : ObjectId) → All P xs → IsTrue (is_one_of xs q) → P q
of-member P [] q all is = cc
of-member P (x ∷ xs) q all is =
    elim (one_of-cons_cases x xs q is) as (λ _. P q) [
      | inl e ↦ subst P (sym e) (all 0 x (omega arith))
      | inr member ↦ of-member P xs q (λ i d within. all (suc i) d (omega arith)) member
    ]

ends : (h : History) (a c : ObjectId) → IsAncestor h a c → Has h c
ends h a c (itself here) = here
ends h a c (further b d p e) = e.1

-- In a history that has all parents of its commits, these reach nothing beyond.
module _ (h k : History) (levelled : IsLevelled h) (ids : List ObjectId) (all : All (Has h) ids) where
  agree : Agree (h ++ k) h
  agree id _ has = sym (first-has h k id has)

  stays : (tip c : ObjectId) → Has h tip → IsAncestor (h ++ k) tip c → IsAncestor h tip c
  stays tip c has p = (reaches-same (h ++ k) h agree levelled.closed tip has c p).0

  reached : (a : ObjectId) → IsAncestorOfOne (h ++ k) ids a → Has h a
  reached a is = ends h is.0 a (stays is.0 a (of-member (Has h) ids is.0 all is.1) is.2)

  edge : (a b : ObjectId) → Has h a → IsEdge (h ++ k) a b → IsEdge h a b
  edge a b has e =
      let P : Option Entry → Type 0 = λ o. IsTrue (is_one_of (parents_in o) b) in
      let parent = subst P (first-has h k a has) e.0 in
      (parent, levelled.closed a b parent)

  pub acyclic-on : IsAcyclicFrom (h ++ k) ids
  acyclic-on a b is e p =
      let inside = edge a b (reached a is) e in
      fall-acyclic h levelled.fall a b inside (stays b a inside.1 p)

  pub ordered-on : GenerationsNeverRiseFrom (h ++ k) ids
  ordered-on a b is e =
      let has = reached a is in
      let inside = edge a b has e in
      let own = ap generation_in (first-has h k a has) in
      let to = ap generation_in (first-has h k b inside.1) in
      let less = levelled.fall a b inside in
      omega arith
