-- What ids reach in two histories that agree and are closed.
use Rattle.std.proofs.Common.{List, ◌∷◌, Bool, true, false, IsTrue, ◌||◌, Option, sym, ap, subst}
use Rattle.std.specs.Prelude.{MatchBool}
use Rattle.std.proofs.lemmas.Bool.{or_right}
use Rattle.gix_base.specs.declared.hash.ObjectId.{ObjectId}
use Rattle.gix_revwalk.specs.History.{History, Entry, Has, IsEdge, IsAncestor, IsAncestorOfOne, IsAncestorOfAll, parents_in, is_one_of, same_id}
use Rattle.gix_revwalk.specs.History.IsAncestor.{itself, further}
use Rattle.gix_revwalk.proofs.Ids.{same_id-itself}
use Rattle.gix_merge_base.specs.Bases.{IsMaximal}
use Rattle.gix_object.specs.Authentic.{IsClosed, Agree}
use Rattle.gix_object.proofs.Determined.{reaches-same}
use Rattle.gix_authentic.specs.Determined.{BothHave}

pub ends : (h : History) (a c : ObjectId) → IsAncestor h a c → Has h c
ends h a c (itself here) = here
ends h a c (further b d p e) = e.1

pub turned : (h k : History) → Agree h k → Agree k h
turned h k agree id in-k in-h = sym (agree id in-h in-k)

pub swapped : (h k : History) (ids : List ObjectId) → BothHave h k ids → BothHave k h ids
swapped h k ids both id is = ((both id is).1, (both id is).0)

-- The list f ∷ os begins with f.
pub first : (f : ObjectId) (os : List ObjectId) → IsTrue (is_one_of (f ∷ os) f)
first f os = ap (λ b. b || is_one_of os f) (same_id-itself f)

pub first-of : (h k : History) (f : ObjectId) (os : List ObjectId) → BothHave h k (f ∷ os) → Has h f × Has k f
first-of h k f os both = both f (first f os)

pub others-of : (h k : History) (f : ObjectId) (os : List ObjectId) → BothHave h k (f ∷ os) → BothHave h k os
others-of h k f os both o is = both o (or_right (same_id o f) (is_one_of os o) is)

-- A case of a match that does not change is left as it is.
pub by : (b : Bool) (A P Q : Type 0) → (P → Q) → MatchBool b A P → MatchBool b A Q
by true A P Q go is = is
by false A P Q go is = go is

module _ (h k : History) (agree : Agree h k) (closed-h : IsClosed h) (closed-k : IsClosed k) where
  pub go : (a c : ObjectId) → Has k a → IsAncestor h a c → IsAncestor k a c
  go a c has p = (reaches-same h k agree closed-k a has c p).0

  pub back : (a c : ObjectId) → Has h a → IsAncestor k a c → IsAncestor h a c
  back a c has p = (reaches-same k h (turned h k agree) closed-h a has c p).0

  pub edge : (a b : ObjectId) → Has h a → Has k a → IsEdge h a b → IsEdge k a b
  edge a b in-h in-k e =
      let P : Option Entry → Type 0 = λ o. IsTrue (is_one_of (parents_in o) b) in
      let parent = subst P (sym (agree a in-h in-k)) e.0 in
      (parent, closed-k a b parent)

  pub of-one : (os : List ObjectId) (c : ObjectId) → BothHave h k os → IsAncestorOfOne h os c → IsAncestorOfOne k os c
  of-one os c both is = (is.0, is.1, go is.0 c (both is.0 is.1).1 is.2)

  pub of-all : (ids : List ObjectId) (c : ObjectId) → BothHave h k ids → IsAncestorOfAll h ids c → IsAncestorOfAll k ids c
  of-all ids c both all i is = go i c (both i is).1 (all i is)

  -- Two sets with the same members have the same maximal members.
  pub maximal : (S T : ObjectId → Type 0) → ((c : ObjectId) → S c → T c) → ((c : ObjectId) → T c → S c) → ((c : ObjectId) → S c → Has h c)
      → (c : ObjectId) → IsMaximal h S c → IsMaximal k T c
  maximal S T on off there c is = (on c is.0, λ t in-t p. is.1 t (off t in-t) (back t c (there t (off t in-t)) p))
