-- What a source in memory notes about generation numbers stays right.
use Rattle.std.proofs.Common.{◌≡◌, ◌≤◌, ℕ, ◌-◌, ◌^◌, true, false, cond, refl, ap, sym, subst, ◌∙◌, Option, Some, None, is_some, Bool, IsTrue, List}
use Rattle.std.proofs.lemmas.List.Folds.{Any-from_list_any}
use Rattle.std.specs.List.{All}
use Rattle.gix_base.specs.declared.hash.ObjectId.{ObjectId}
use Rattle.gix_revwalk.proofs.Ids.{same_id-true, same_id-itself}
use Rattle.gix_revwalk.specs.History.{Entry, History, GenerationsNeverRise, Has, entry_at, generation_in, generation_of, parents_in, same_id}
use Rattle.gix_revwalk.specs.Generations.{AreSo, HasNoGenerations}
use Rattle.gix_revwalk.specs.Stored.{IsUpTo, AreLevelled, AreRight}
use Rattle.gix_revwalk.specs.declared.graph.find.Generations.{Generations}
use Rattle.gix_revwalk.specs.declared.graph.find.Generations.TheVariants.{Unknown, Absent, NeverRise}

-- The generation number of what is found.
pub is-up_to : (h : History) (n : ℕ) (id : ObjectId) (e : Entry) → Some e ≡ entry_at h id → generation_in (Some e) ≤ n → IsUpTo h n id
is-up_to h n id e is le = (ap is_some (sym is), subst (λ o. generation_in o ≤ n) is le)

-- One more commit is added, under an id that had none.
module _ (h more : History) (id : ObjectId) (e : Entry) (lacks : entry_at h id ≡ None)
    (put : (q : ObjectId) → entry_at more q ≡ cond (same_id id q) (Some e) (entry_at h q)) where
  -- Commits that were there are unchanged.
  kept : (q : ObjectId) → Has h q → entry_at more q ≡ entry_at h q
  kept q has = put q ∙ by (same_id id q) refl
    where
      by : (b : Bool) → same_id id q ≡ b → cond b (Some e) (entry_at h q) ≡ entry_at h q
      by true is = cc (has, ap is_some (ap (entry_at h) (sym (same_id-true id q is)) ∙ lacks))
      by false is = refl

  -- Parents that were there still are.
  up_to : (n : ℕ) (ids : List ObjectId) → All (IsUpTo h n) ids → All (IsUpTo more n) ids
  up_to n ids all k d lt =
      let there = all k d lt in
      let same = sym (kept _ there.0) in
      (subst (λ o. IsTrue (is_some o)) same there.0, subst (λ o. generation_in o ≤ n) same there.1)

  pub levelled-more : AreLevelled h → All (IsUpTo h (generation_in (Some e))) e.parents → AreLevelled more
  levelled-more levelled parents a = by (same_id id a) (put a)
    where
      by : (b : Bool) → entry_at more a ≡ cond b (Some e) (entry_at h a) → All (IsUpTo more (generation_of more a)) (parents_in (entry_at more a))
      by true is = subst (λ o. All (IsUpTo more (generation_in o)) (parents_in o)) (sym is) (up_to _ _ parents)
      by false is = subst (λ o. All (IsUpTo more (generation_in o)) (parents_in o)) (sym is) (up_to _ _ (levelled a))

  -- Without generation numbers among all, there are none among those before.
  none-before : HasNoGenerations more → HasNoGenerations h
  none-before none a = by (entry_at h a) refl
    where
      by : (o : Option Entry) → entry_at h a ≡ o → generation_of h a ≡ 2 ^ 32 - 1
      by None is = ap generation_in is
      by (Some _) is = ap generation_in (sym (kept a (ap is_some is))) ∙ none a

  -- Nor has the new one.
  none-new : HasNoGenerations more → generation_in (Some e) ≡ 2 ^ 32 - 1
  none-new none = ap generation_in (sym (put id ∙ ap (λ b. cond b (Some e) (entry_at h id)) (same_id-itself id))) ∙ none id

  -- Whatever is known is right about absence if some commit has a generation number.
  pub not-absent : (known : Generations) → (HasNoGenerations h → generation_in (Some e) ≡ 2 ^ 32 - 1 → ⊥) → HasNoGenerations more → known ≡ Absent
  not-absent known other none = absurd (other (none-before none) (none-new none))

  -- No commit has one if none had and the new one has none.
  pub none-more : HasNoGenerations h → generation_in (Some e) ≡ 2 ^ 32 - 1 → HasNoGenerations more
  none-more none new a = by (same_id id a) (put a)
    where
      by : (b : Bool) → entry_at more a ≡ cond b (Some e) (entry_at h a) → generation_of more a ≡ 2 ^ 32 - 1
      by true is = ap generation_in is ∙ new
      by false is = ap generation_in is ∙ none a

-- No generation number rises, then.
levelled-falls : (h : History) → AreLevelled h → GenerationsNeverRise h
levelled-falls h levelled a b edge =
    let (k, x, lt, is, same) = Any-from_list_any (same_id b) (parents_in (entry_at h a)) edge.0 in
    (subst (IsUpTo h (generation_of h a)) (is ∙ sym (same_id-true b x same)) (levelled a k x lt)).1

-- what is noted is so
pub noted-so : (known : Generations) (h : History) → AreRight known h → AreSo known h
noted-so Unknown h noted = tt
noted-so Absent h noted = noted
noted-so NeverRise h noted = levelled-falls h noted
