-- The number of all that some commits reach, if none is excluded.
use Rattle.std.proofs.Common.{◌≡◌, ℕ, Bool, [], List, false, true, sym, subst, arith}
use Rattle.std.proofs.lemmas.Map.Made.{length-le_from_is_member}
use Rattle.gix_base.specs.declared.hash.ObjectId.{ObjectId}
use Rattle.gix_revwalk.specs.History.{History, IsAncestorOfOne}
use Rattle.gix_revwalk.specs.Sizes.{HasSize}
use Rattle.gix_revwalk.proofs.Ids.{same_id-laws}
use Rattle.gix_questions.specs.ReachQuestions.{MeansCountReachable}

none-of-none : (h : History) (c : ObjectId) → ¬ IsAncestorOfOne h [] c
none-of-none h c up = let wrong : false ≡ true = up.1 in cc

counts-without : (h : History) (early : Bool) (included : List ObjectId) (n : ℕ) → HasSize (IsAncestorOfOne h included) n → MeansCountReachable h early included [] n
counts-without h early included n has = record {
  size = λ never. (has.0, (has.1.0, λ c. ((λ m. ((has.1.1 c).0 m, none-of-none h c)), (λ beyond. (has.1.1 c).1 beyond.0))), has.2);
  no_less = λ zs once each. let le = length-le_from_is_member same_id-laws zs has.0 once (λ c m. (has.1.1 c).1 (each c m).0) in let is = has.2 in omega arith;
  no_more = (has.0, has.1.0, (λ c m. (has.1.1 c).0 m), let is = has.2 in omega arith);
}

-- What the tips reach is what the included ones reach and no excluded one does, if none is excluded.
pub counts-reachable : (h : History) (early : Bool) (tips included excluded : List ObjectId) (n : ℕ) → tips ≡ included → excluded ≡ []
    → HasSize (IsAncestorOfOne h tips) n → MeansCountReachable h early included excluded n
counts-reachable h early tips included excluded n same none has =
    subst (λ l. MeansCountReachable h early included l n) (sym none)
    (counts-without h early included n (subst (λ l. HasSize (IsAncestorOfOne h l) n) same has))
