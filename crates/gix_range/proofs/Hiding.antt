-- What is hidden of candidates is what excluded commits reach.
use Rattle.std.proofs.Common.{◌≡◌, sym, subst, List, [], ◌∷◌, inl, inr, IsTrue, Result, Ok, Err}
use Rattle.std.specs.Prelude.{IfOk}
use Rattle.gix_base.specs.declared.hash.ObjectId.{ObjectId}
use Rattle.gix_revwalk.specs.History.{History, IsAncestor, is_one_of}
use Rattle.gix_revwalk.specs.Walks.{all_added}
use Rattle.gix_revwalk.proofs.Ancestors.{anc-trans, has_ancestor}
use Rattle.gix_revwalk.proofs.Members.{one_of-single}
use Rattle.gix_merge_base.specs.Sides.{CoversSide}
use Rattle.gix_merge_base.proofs.Reached.{acyclic_within}
use Rattle.gix_range.specs.Lines.{IsBelow}
use Rattle.gix_range.specs.Ranges.{Hides}
use Rattle.gix_range.proofs.Gathering.{all_added_cases, all_added_new}

pub if_ok : {T E : Type 0} (r : Result T E) (P Q : T → Type 0) → ((x : T) → P x → Q x) → IfOk r P → IfOk r Q
if_ok (Ok x) P Q f k = f x k
if_ok (Err e) P Q f k = tt

-- a list as a set of its members
pub covers_added : (h : History) (inc ex ids new : List ObjectId) → new ≡ all_added [] ids → CoversSide h inc ex ids → CoversSide h inc ex new
covers_added h inc ex ids new is at = record {
  every = λ c r out. subst (λ l. IsTrue (is_one_of l c)) (sym is) (all_added_new [] ids c (at.every c r out));
  from = λ c k. at.from c (elim (all_added_cases [] ids c (subst (λ l. IsTrue (is_one_of l c)) is k)) as (λ _. IsTrue (is_one_of ids c)) [ inl a ↦ cc | inr b ↦ b ]);
}

-- what the excluded commits reach above a commit that reaches none of the candidates
pub above_hides : (h : History) (candidates excluded hidden : List ObjectId) (z : ObjectId) → IsBelow h candidates z → CoversSide h excluded (z ∷ []) hidden → Hides h candidates excluded hidden
above_hides h candidates excluded hidden z below covers = record {
  reached = λ c k has. covers.from c k;
  every = λ acyclic c k reach. covers.every c reach (λ up.
      let within = acyclic_within h (c ∷ []) excluded (λ x a. (reach.0, reach.1, anc-trans h reach.0 c x reach.2 (subst (λ y. IsAncestor h y x) (one_of-single c a.0 a.1) a.2))) acyclic in
      below c k (has_ancestor h reach.0 c reach.2).0 within (subst (λ y. IsAncestor h y c) (one_of-single z up.0 up.1) up.2));
}
