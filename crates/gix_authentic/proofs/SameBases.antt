-- Merge bases and octopus bases in two histories that agree and are closed.
use Rattle.std.proofs.Common.{◌≡◌, ℕ, ◌≤◌, List, ◌∷◌, IsTrue, Option, Some, None, ap, ◌∙◌, subst}
use Rattle.std.specs.Prelude.{MatchOption}
use Rattle.std.specs.List.{list_all}
use Rattle.std.specs.Ordering.{nat_cmp, int_cmp, ordering_then, is_gt}
use Rattle.std.specs.Cmp.Lexicographic.{slice_cmp}
use Rattle.std.specs.declared.cmp.Ordering.{Ordering}
use Rattle.gix_base.specs.declared.hash.ObjectId.{ObjectId}
use Rattle.gix_revwalk.specs.History.{History, Entry, Has, IsAncestorOfAll, entry_at, generation_in, generation_of, time_in, same_id}
use Rattle.gix_merge_base.specs.Bases.{IsCommon, IsMaximal, AreBases, is_trivial}
use Rattle.gix_merge_base.specs.Keys.{choice}
use Rattle.gix_merge_base.specs.Octopus.{IsOctopusBase, AreOctopusBases}
use Rattle.gix_merge_base.specs.Premises.{GenerationsNeverRiseFrom}
use Rattle.gix_object.specs.Authentic.{IsClosed, Agree}
use Rattle.gix_authentic.specs.Determined.{BothHave}
use Rattle.gix_authentic.proofs.Same.{ends, turned, swapped, first, first-of, others-of, by, go, edge, of-one, of-all, maximal}

module _ (h k : History) (agree : Agree h k) (closed-h : IsClosed h) (closed-k : IsClosed k) (f : ObjectId) (os : List ObjectId) (both : BothHave h k (f ∷ os)) where
  common : (c : ObjectId) → IsCommon h f os c → IsCommon k f os c
  common c is =
      (go h k agree closed-h closed-k f c (first-of h k f os both).1 is.0, of-one h k agree closed-h closed-k os c (others-of h k f os both) is.1)

  pub all : (c : ObjectId) → IsAncestorOfAll h (f ∷ os) c → IsAncestorOfAll k (f ∷ os) c
  all c is = of-all h k agree closed-h closed-k (f ∷ os) c both is

  pub has-all : (c : ObjectId) → IsAncestorOfAll h (f ∷ os) c → Has h c
  has-all c is = ends h f c (is f (first f os))

module _ (h k : History) (agree : Agree h k) (closed-h : IsClosed h) (closed-k : IsClosed k) (f : ObjectId) (os : List ObjectId) (both : BothHave h k (f ∷ os)) where
  -- The other direction is this one with the histories swapped.
  common-back : (c : ObjectId) → IsCommon k f os c → IsCommon h f os c
  common-back = common k h (turned h k agree) closed-k closed-h f os (swapped h k (f ∷ os) both)

  all-back : (c : ObjectId) → IsAncestorOfAll k (f ∷ os) c → IsAncestorOfAll h (f ∷ os) c
  all-back = all k h (turned h k agree) closed-k closed-h f os (swapped h k (f ∷ os) both)

  maximal-common : (c : ObjectId) → IsMaximal h (IsCommon h f os) c → IsMaximal k (IsCommon k f os) c
  maximal-common =
      maximal h k agree closed-h closed-k (IsCommon h f os) (IsCommon k f os) (common h k agree closed-h closed-k f os both) common-back (λ c is. ends h f c is.0)

  pub maximal-all : (c : ObjectId) → IsMaximal h (IsAncestorOfAll h (f ∷ os)) c → IsMaximal k (IsAncestorOfAll k (f ∷ os)) c
  maximal-all =
      maximal h k agree closed-h closed-k (IsAncestorOfAll h (f ∷ os)) (IsAncestorOfAll k (f ∷ os)) (all h k agree closed-h closed-k f os both) all-back
      (has-all h k agree closed-h closed-k f os both)

  -- Ordered generations.
  generation : (c : ObjectId) → Has h c → Has k c → generation_of k c ≡ generation_of h c
  generation c in-h in-k = ap generation_in (agree c in-h in-k)

  pub never-rise : GenerationsNeverRiseFrom k (f ∷ os) → GenerationsNeverRiseFrom h (f ∷ os)
  never-rise fall a b is e =
      let there = of-one h k agree closed-h closed-k (f ∷ os) a both is in
      let in-h = ends h is.0 a is.2 in
      let in-k = ends k there.0 a there.2 in
      let onward = edge h k agree closed-h closed-k a b in-h in-k e in
      let less = fall a b there onward in
      let P : ℕ → Type 0 = λ n. n ≤ generation_of h a in
      let Q : ℕ → Type 0 = λ n. generation_of k b ≤ n in
      subst P (generation b e.1 onward.1) (subst Q (generation a in-h in-k) less)

  -- The order of two commits.
  abbrev order : ObjectId → ObjectId → Option Entry → Option Entry → Ordering
  order x y d e =
      ordering_then (nat_cmp (generation_in e) (generation_in d)) (ordering_then (int_cmp (time_in e) (time_in d)) (slice_cmp nat_cmp x.0 y.0))

  same-choice : (x y : ObjectId) → Has h x → Has k x → Has h y → Has k y → choice k x y ≡ choice h x y
  same-choice x y in-h in-k in-h' in-k' =
      ap (λ d. order x y d (entry_at k y)) (agree x in-h in-k) ∙ ap (λ e. order x y (entry_at h x) e) (agree y in-h' in-k')

  pub bases-over : (ids : List ObjectId) → AreBases h f os ids → AreBases k f os ids
  bases-over ids are c = (
    λ t. by (is_trivial f os) (c ≡ f) (IsMaximal h (IsCommon h f os) c) (IsMaximal k (IsCommon k f os) c) (maximal-common c) ((are c).0 t),
    λ is. (are c).1 (by (is_trivial f os) (c ≡ f) (IsMaximal k (IsCommon k f os) c) (IsMaximal h (IsCommon h f os) c)
        (maximal k h (turned h k agree) closed-k closed-h (IsCommon k f os) (IsCommon h f os) common-back (common h k agree closed-h closed-k f os both) (λ d is'. ends k f d is'.0) c) is),
  )

  maximal-all-back : (c : ObjectId) → IsMaximal k (IsAncestorOfAll k (f ∷ os)) c → IsMaximal h (IsAncestorOfAll h (f ∷ os)) c
  maximal-all-back =
      maximal k h (turned h k agree) closed-k closed-h (IsAncestorOfAll k (f ∷ os)) (IsAncestorOfAll h (f ∷ os)) all-back (all h k agree closed-h closed-k f os both)
      (has-all k h (turned h k agree) closed-k closed-h f os (swapped h k (f ∷ os) both))

  pub octopus-bases-over : (ids : List ObjectId) → AreOctopusBases h f os ids → AreOctopusBases k f os ids
  octopus-bases-over ids are = record {
    each = λ c is. all h k agree closed-h closed-k f os both c (are.each c is);
    cover = λ c is.
        let one = are.cover c (all-back c is) in
        let there = all h k agree closed-h closed-k f os both one.0 (are.each one.0 one.1) in
        (one.0, one.1, go h k agree closed-h closed-k one.0 c (has-all k h (turned h k agree) closed-k closed-h f os (swapped h k (f ∷ os) both) one.0 there) one.2);
    maximal = λ fall c. (
      λ t. maximal-all c ((are.maximal (never-rise fall) c).0 t),
      λ is. (are.maximal (never-rise fall) c).1 (maximal-all-back c is),
    );
  }

  abbrev OneOf : History → Option ObjectId → Type 0
  OneOf g r =
      MatchOption r ((c : ObjectId) → ¬ IsAncestorOfAll g (f ∷ os) c)
      (λ x. IsMaximal g (IsAncestorOfAll g (f ∷ os)) x
      × ((y : ObjectId) → IsMaximal g (IsAncestorOfAll g (f ∷ os)) y → IsTrue (is_gt (choice g x y)) → ⊥))

  one-over : (r : Option ObjectId) → OneOf h r → OneOf k r
  one-over None none = λ c is. none c (all-back c is)
  one-over (Some x) is = (
    maximal-all x is.0,
    λ y other later.
        let other' = maximal-all-back y other in
        let in-x = has-all h k agree closed-h closed-k f os both x is.0.0 in
        let in-x' = ends k f x ((maximal-all x is.0).0 f (first f os)) in
        let in-y = has-all h k agree closed-h closed-k f os both y other'.0 in
        let in-y' = ends k f y (other.0 f (first f os)) in
        let P : Ordering → Type 0 = λ o. IsTrue (is_gt o) in
        is.1 y other' (subst P (same-choice x y in-x in-x' in-y in-y') later),
  )

  pub octopus-base-over : (r : Option ObjectId) → IsOctopusBase h f os r → IsOctopusBase k f os r
  octopus-base-over r is = by (list_all (same_id f) os) (r ≡ Some f) (OneOf h r) (OneOf k r) (one-over r) is
