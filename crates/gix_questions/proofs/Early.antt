-- What the walks that end early say of the history, as answers to questions.
use Rattle.std.proofs.Common.{ℕ, true, sym, subst, List, [], ◌∷◌, IsTrue, ◌↔◌}
use Rattle.std.specs.List.{IsDistinct}
use Rattle.std.proofs.Math.Path.{fun_ext}
use Rattle.std.proofs.lemmas.Map.Keys.{IsDistinct-from_sorted}
use Rattle.gix_base.specs.declared.hash.ObjectId.{ObjectId}
use Rattle.gix_revwalk.specs.History.{History, Has, IsAncestorOfOne, IsBeyond, is_one_of, same_id}
use Rattle.gix_revwalk.specs.Sizes.{AtLeast, AtMost, HasSize, Lists}
use Rattle.gix_revwalk.proofs.Ancestors.{has_ancestor}
use Rattle.gix_merge_base.specs.Keys.{IsInOrder, choice}
use Rattle.gix_merge_base.specs.Premises.{IsAcyclicFrom}
use Rattle.gix_merge_base.proofs.Sorting.{choice_ties}
use Rattle.gix_range.specs.Ranges.{Covers}
use Rattle.gix_resolve.proofs.ReachCounted.{size-range, no_less-range, no_more-one}
use Rattle.gix_questions.specs.ReachQuestions.{MeansReachable, MeansAheadBehind}

-- ids in order are there once
once-in-order : (h : History) (ids : List ObjectId) → IsInOrder h ids → IsDistinct same_id ids
once-in-order h ids order = subst (λ e. IsDistinct e ids) (sym (fun_ext (λ x. fun_ext (λ y. choice_ties h x y)))) (IsDistinct-from_sorted (choice h) ids order)

-- a list, put in order
pub means-sorted : (h : History) (included excluded ids sorted : List ObjectId) → (IsAcyclicFrom h excluded → Lists ids (IsBeyond h excluded included)) → Covers h included excluded ids
    → IsInOrder h sorted → ((c : ObjectId) → IsTrue (is_one_of sorted c) ↔ (IsTrue (is_one_of ids c) × Has h c)) → MeansReachable h true included excluded sorted
means-sorted h included excluded ids sorted lists covers order same = record {
  reached = λ acyclic. let all = (lists acyclic).1 in (once-in-order h sorted order, λ c. (λ m. (all c).0 ((same c).0 m).0, λ b. (same c).1 ((all c).1 b, there c b)));
  every = λ c b. (same c).1 (covers.every c b, there c b);
  shown = λ c m. covers.from c ((same c).0 m).0;
  order = order;
}
  where
    there : (c : ObjectId) → IsBeyond h excluded included c → Has h c
    there c b = (has_ancestor h b.0.0 c b.0.2).0

-- both counts
pub means-counted : (h : History) (ours theirs : ObjectId) (a b : ℕ)
    → (IsAcyclicFrom h (theirs ∷ []) → HasSize (IsBeyond h (theirs ∷ []) (ours ∷ [])) a) → (IsAcyclicFrom h (ours ∷ []) → HasSize (IsBeyond h (ours ∷ []) (theirs ∷ [])) b)
    → AtMost a (IsBeyond h (theirs ∷ []) (ours ∷ [])) → AtMost b (IsBeyond h (ours ∷ []) (theirs ∷ []))
    → AtLeast a (IsAncestorOfOne h (ours ∷ [])) → AtLeast b (IsAncestorOfOne h (theirs ∷ [])) → MeansAheadBehind h true ours theirs a b
means-counted h ours theirs a b ahead behind less_a less_b more_a more_b = record {
  ahead = λ acyclic. size-range h theirs ours a (ahead acyclic);
  behind = λ acyclic. size-range h ours theirs b (behind acyclic);
  no_less_ahead = no_less-range h theirs ours a less_a;
  no_less_behind = no_less-range h ours theirs b less_b;
  no_more_ahead = no_more-one h ours a more_a;
  no_more_behind = no_more-one h theirs b more_b;
}
