-- Where a walk stands as the source fails.
use Rattle.std.proofs.Common.{◌≡◌, ℕ, true, refl, ap, sym, subst, ◌∙◌, List, [], ◌∷◌, ◌++◌, ◌⊎◌, inl, inr, IsTrue, length, take, Option, None, is_some, append_assoc}
use Rattle.std.proofs.lemmas.List.{take-append-drop}
use Rattle.std.proofs.Math.Seq.{take-append_seam}
use Rattle.gix_base.specs.declared.hash.ObjectId.{ObjectId}
use Rattle.gix_base.specs.declared.error.message.Message.{Message}
use Rattle.gix_base.specs.declared.error.message.Message.TheVariants.{ParentsOf, MissingStart, CounterFull, OutOfMemory}
use Rattle.gix_revwalk.specs.History.{History, entry_at, parents_in, is_one_of, Has, IsEdge}
use Rattle.gix_revwalk.proofs.Members.{one_of-left, one_of-right, one_of-head}
use Rattle.gix_describe.specs.Asks.{IsHandRefused}
use Rattle.gix_describe.specs.DescribeRefusals.{is_parents_fault}
use Rattle.gix_describe.specs.Handing.{Hands, HandsUntil}
use Rattle.gix_describe.specs.Order.{Ranking, IsLedTo, StandsAt}
use Rattle.gix_describe.specs.Ties.{IsHeldAtFault}
use Rattle.gix_describe.specs.Trace.{is_edge, is_met, IsNext, IsWalk}
use Rattle.gix_describe.proofs.Cuts.{stands}
use Rattle.gix_describe.proofs.Handing.{there}
use Rattle.gix_describe.proofs.OrderWalks.{walk_prefix, met_led, led_met}
use Rattle.gix_describe.proofs.Tied.{some_in}
use Rattle.gix_describe.proofs.Traces.{and_left, and_right, both, or_split, or_right, edge_from}
use Rattle.gix_describe.proofs.WalkSteps.{goes_more}

-- ---- while the parents of one commit are met
-- none was met
pub until_first : (h : History) (x : ObjectId) (held now : ObjectId → Option ℕ) → ((q : ObjectId) → now q ≡ held q) → HandsUntil h x held now
until_first h x held now same = record {
  kept = λ q k. ap is_some (same q) ∙ k;
  new = λ q k. inl (sym (ap is_some (same q)) ∙ k);
  lacks = inr (λ q k. sym (ap is_some (same q)) ∙ k);
}

-- some were met, and the next one is not held
pub until_next : (h : History) (x : ObjectId) (ps : List ObjectId) (i m : ℕ) (p : ObjectId) (held before now : ObjectId → Option ℕ) → ps ≡ parents_in (entry_at h x) → IsTrue (is_one_of ps p) → Hands (there h (take i ps)) m held before
    → ((q : ObjectId) → now q ≡ before q) → now p ≡ None → HandsUntil h x held now
until_next h x ps i m p held before now is p_in hands same none = record {
  kept = λ q k. ap is_some (same q) ∙ hands.held q ∙ or_right (there h (take i ps) q) (is_some (held q)) k;
  new = λ q k. elim (or_split (there h (take i ps) q) (is_some (held q)) (sym (hands.held q) ∙ sym (ap is_some (same q)) ∙ k)) as (λ _. IsTrue (is_some (held q)) ⊎ IsTrue (is_edge h x q)) [
    | inl a ↦ inr (both _ _ (ap (λ l. is_one_of l q) (sym is) ∙ taken q (and_left (is_one_of (take i ps) q) _ a)) (and_right (is_one_of (take i ps) q) _ a))
    | inr b ↦ inl b
  ];
  lacks = inl (p, ap (λ l. is_one_of l p) (sym is) ∙ p_in, none);
}
  where
    taken : (q : ObjectId) → is_one_of (take i ps) q ≡ true → is_one_of ps q ≡ true
    taken q k = ap (λ l. is_one_of l q) (sym (take-append-drop i ps)) ∙ one_of-left (take i ps) _ q k

-- ---- in the order of the walk
pub stands_at : (ranks : Ranking) (h : History) (s x : ObjectId) (xs : List ObjectId) (held now : ObjectId → Option ℕ) → Has h s → IsWalk ranks h s xs → IsNext ranks h s xs x → ((c : ObjectId) → is_some (held c) ≡ is_met h s xs c) → HandsUntil h x held now → StandsAt ranks.0 h s x now
stands_at ranks h s x xs held now has w next met until =
    let on : IsWalk ranks h s (xs ++ x ∷ []) = goes_more ranks h s xs x w next in
    let p = walk_prefix ranks h s (xs ++ x ∷ []) has on (some_in ranks h s x (xs ++ x ∷ []) on (one_of-right xs (x ∷ []) x (one_of-head x []))) in
    let whole : p.order ≡ xs ++ (x ∷ p.rest) = p.splits ∙ append_assoc xs (x ∷ []) p.rest in
    let first : take (length xs) p.order ≡ xs = ap (take (length xs)) whole ∙ take-append_seam xs (x ∷ p.rest) in
    let led : (c : ObjectId) → is_some (held c) ≡ true → IsLedTo h s (take (length xs) p.order) c = λ c k. subst (λ l. IsLedTo h s l c) (sym first) (met_led h s xs c (sym (met c) ∙ k)) in
    record {
      back = ranks.1;
      order = p.order;
      order_is = p.order_is;
      before = length xs;
      x_is = stands ranks h s [] p.order xs p.rest x has (record { walk = w; next = next }) whole;
      kept = λ c l. until.kept c (met c ∙ led_met h s xs c (subst (λ l. IsLedTo h s l c) first l));
      new = λ c k. elim (until.new c k) as (λ _. IsLedTo h s (take (length xs) p.order) c ⊎ IsEdge h x c) [ inl a ↦ inl (led c a) | inr e ↦ inr (edge_from h x c e) ];
      lacks = elim until.lacks as (λ _. ((q : ObjectId) × IsTrue (is_one_of (parents_in (entry_at h x)) q) × (now q ≡ None)) ⊎ ((c : ObjectId) → IsTrue (is_some (now c)) → IsLedTo h s (take (length xs) p.order) c)) [
        | inl a ↦ inl a
        | inr a ↦ inr (λ c k. led c (a c k))
      ];
    }

-- ---- what a refusal says
pub fault_stands : (ranks : Ranking) (h : History) (s x : ObjectId) (xs : List ObjectId) (held now : ObjectId → Option ℕ) → Has h s → IsWalk ranks h s xs → IsNext ranks h s xs x → ((c : ObjectId) → is_some (held c) ≡ is_met h s xs c)
    → (e : Message) → IsHandRefused h x e → (IsTrue (is_parents_fault e) → HandsUntil h x held now) → IsHeldAtFault ranks.0 h s e now
fault_stands ranks h s x xs held now has w next met (ParentsOf id) is until = inr (subst (λ z. StandsAt ranks.0 h s z now) (sym is) (stands_at ranks h s x xs held now has w next met (until refl)))
fault_stands ranks h s x xs held now has w next met (MissingStart id) is until = tt
fault_stands ranks h s x xs held now has w next met CounterFull is until = tt
fault_stands ranks h s x xs held now has w next met OutOfMemory is until = tt
