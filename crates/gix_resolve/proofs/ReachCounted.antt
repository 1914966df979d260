-- The numbers of commits that only one side of a walk reaches.
use Rattle.std.proofs.Common.{◌≡◌, ℕ, Bool, true, false, cond, refl, ap, sym, ◌∙◌, List, [], ◌∷◌, ◌<◌, ◌≤◌, ◌+◌, not, zero, suc, take, length, get_or, IsTrue, arith}
use Rattle.std.specs.List.{filter}
use Rattle.std.proofs.lemmas.List.{length-map}
use Rattle.std.proofs.lemmas.List.Filters.{length-filter_more}
use Rattle.std.proofs.lemmas.Map.Made.{length-le_from_is_member}
use Rattle.gix_base.specs.declared.hash.ObjectId.{ObjectId}
use Rattle.gix_revwalk.specs.History.{History, IsAncestor, IsAncestorOfOne, IsBeyond}
use Rattle.gix_revwalk.specs.Graph.{Graphed}
use Rattle.gix_revwalk.specs.Number.{place_in}
use Rattle.gix_revwalk.specs.Sizes.{HasSize, AtLeast, AtMost}
use Rattle.gix_revwalk.specs.declared.graph.commit.Commit.{Commit}
use Rattle.gix_revwalk.specs.declared.numbers.Number.{Number}
use Rattle.gix_revwalk.proofs.Ids.{same_id-laws}
use Rattle.gix_merge_base.specs.PaintQueue.{id_at, ids_at, marks_at}
use Rattle.gix_merge_base.specs.Premises.{GenerationsNeverRiseFrom}
use Rattle.gix_merge_base.specs.declared.merge_base.flags.Flags.{Flags}
use Rattle.gix_merge_base.proofs.Numbered.{id-of-item}
use Rattle.gix_spec.specs.declared.spec.Spec.TheVariants.{Range}
use Rattle.gix_resolve.specs.ListMeaning.{IsMeant}
use Rattle.gix_resolve.specs.ReachSides.{is_first_alone, is_second_alone, Sees, CountsSides}
use Rattle.gix_resolve.specs.ReachWalk.{AreMet}
use Rattle.gix_resolve.proofs.ReachShown.{passing, left, first-not_hidden, second-not_hidden}
use Rattle.gix_resolve.proofs.ListMembers.{of-one, as-one}
use Rattle.gix_resolve.proofs.ListTaken.{swapped}

-- no more pass than there are
pub counted-below : (p : ObjectId → Bool) (xs : List ObjectId) (i : ℕ) → length (filter p (take i xs)) ≤ i
counted-below p xs zero = omega arith
counted-below p [] (suc i) = omega arith
counted-below p (x ∷ xs) (suc i) = let k = counted-below p xs i in elim (p x) as (λ b. length (cond b (x ∷ filter p (take i xs)) (filter p (take i xs))) ≤ suc i) [ true ↦ omega arith | false ↦ omega arith ]

-- one number more
pub counted_next : {S T : Type 0} (p : ObjectId → Bool) (g : Graphed S T) (ns : List Number) (i : ℕ) (d : Number) → i < length ns → (n k : ℕ) (b : Bool)
    → b ≡ p (id_at g (place_in (get_or ns i d))) → n ≡ length (filter p (take i (ids_at g ns))) → k ≡ n + cond b 1 0 → k ≡ length (filter p (take (i + 1) (ids_at g ns)))
counted_next p g ns i d below n k b test old new =
    let len = length-map ns (λ (k : Number). id_at g (place_in k)) in
    let at = id-of-item g g refl ns i d below in
    let more = length-filter_more p (ids_at g ns) i (id_at g (place_in d)) (omega arith) in
    let same : cond {A = ℕ} b 1 0 ≡ cond {A = ℕ} (p (get_or (ids_at g ns) i (id_at g (place_in d)))) 1 0 = ap (λ z. cond {A = ℕ} z 1 0) test ∙ ap (λ z. cond {A = ℕ} (p z) 1 0) at in
    omega arith

-- as many as a list has are as many as a set has
module _ {S A : Type 0} (g : Graphed S (Commit Flags A)) (ns : List Number) (h : History) (xs ys : List ObjectId) (both : Bool) (at : AreMet both g ns) (sees : Sees h xs ys both (marks_at g)) where
  pub counts_sides : (n k : ℕ) → n ≡ length (filter (λ c. is_first_alone (marks_at g c)) (ids_at g ns)) → k ≡ length (filter (λ c. is_second_alone (marks_at g c)) (ids_at g ns)) → CountsSides h xs ys both n k
  counts_sides n k is_n is_k =
      let first = passing g both ns is_first_alone refl (first-not_hidden both) at _ refl in
      let second = λ (t : IsTrue both). passing g both ns is_second_alone refl (second-not_hidden both t) at (filter (λ c. is_second_alone (marks_at g c)) (ids_at g ns)) refl in
      record {
        first = λ exact. (
          filter (λ c. is_first_alone (marks_at g c)) (ids_at g ns),
          (
            first.0,
            λ c. (
              (λ m. let alone = first.1 c m in (sees.one c (left (marks_at g c).one (not (marks_at g c).two) alone), sees.no_second exact c alone)),
              (λ q. first.2 c (sees.first c q)),
            ),
          ),
          sym is_n,
        );
        first_no_less = λ zs once each. let le = length-le_from_is_member same_id-laws zs (filter (λ c. is_first_alone (marks_at g c)) (ids_at g ns)) once (λ c m. first.2 c (sees.first c (each c m))) in omega arith;
        first_no_more = (filter (λ c. is_first_alone (marks_at g c)) (ids_at g ns), first.0, λ c m. sees.one c (left (marks_at g c).one (not (marks_at g c).two) (first.1 c m)), omega arith);
        second = λ exact t. (
          filter (λ c. is_second_alone (marks_at g c)) (ids_at g ns),
          (
            (second t).0,
            λ c. (
              (λ m. let alone = (second t).1 c m in (sees.two c (left (marks_at g c).two (not (marks_at g c).one) alone), sees.no_first exact t c alone)),
              (λ q. (second t).2 c (sees.second t c q)),
            ),
          ),
          sym is_k,
        );
        second_no_less = λ t zs once each. let le = length-le_from_is_member same_id-laws zs (filter (λ c. is_second_alone (marks_at g c)) (ids_at g ns)) once (λ c m. (second t).2 c (sees.second t c (each c m))) in omega arith;
        second_no_more = λ t. (filter (λ c. is_second_alone (marks_at g c)) (ids_at g ns), (second t).0, λ c m. sees.two c (left (marks_at g c).two (not (marks_at g c).one) ((second t).1 c m)), omega arith);
      }

-- between two commits
to-range : (h : History) (a b c : ObjectId) → IsBeyond h (a ∷ []) (b ∷ []) c → IsMeant h (Range a b) c
to-range h a b c k = (of-one h b c k.0, λ q. k.1 (as-one h a c q))

from-range : (h : History) (a b c : ObjectId) → IsMeant h (Range a b) c → IsBeyond h (a ∷ []) (b ∷ []) c
from-range h a b c k = (as-one h b c k.0, λ q. k.1 (of-one h a c q))

pub size-range : (h : History) (a b : ObjectId) (n : ℕ) → HasSize (IsBeyond h (a ∷ []) (b ∷ [])) n → HasSize (IsMeant h (Range a b)) n
size-range h a b n k = (k.0, (k.1.0, λ c. ((λ m. to-range h a b c ((k.1.1 c).0 m)), (λ q. (k.1.1 c).1 (from-range h a b c q)))), k.2)

pub no_less-range : (h : History) (a b : ObjectId) (n : ℕ) → AtMost n (IsBeyond h (a ∷ []) (b ∷ [])) → AtMost n (IsMeant h (Range a b))
no_less-range h a b n k zs once each = k zs once (λ c m. from-range h a b c (each c m))

pub no_more-one : (h : History) (a : ObjectId) (n : ℕ) → AtLeast n (IsAncestorOfOne h (a ∷ [])) → AtLeast n (IsAncestor h a)
no_more-one h a n k = (k.0, k.1, λ c m. of-one h a c (k.2 c m), k.3)

-- the sides the other way round
pub counts-turned : (h : History) (a b : ObjectId) (n k : ℕ) → CountsSides h (b ∷ []) (a ∷ []) true n k → CountsSides h (a ∷ []) (b ∷ []) true k n
counts-turned h a b n k c = record {
  first = λ never. c.second (turned never) refl;
  first_no_less = c.second_no_less refl;
  first_no_more = c.second_no_more refl;
  second = λ never t. c.first (turned never);
  second_no_less = λ t. c.first_no_less;
  second_no_more = λ t. c.first_no_more;
}
  where
    turned : GenerationsNeverRiseFrom h (a ∷ b ∷ []) → GenerationsNeverRiseFrom h (b ∷ a ∷ [])
    turned never x y up e = never x y (swapped h b a x up) e
