-- A graph of commits stays right if its history gets one more commit.
use Rattle.std.proofs.Common.{◌≡◌, ℕ, zero, suc, true, false, cond, refl, ap, sym, subst, ◌∙◌, List, [], ◌∷◌, Option, Some, None, is_some, map}
use Rattle.std.specs.List.{AllByRecursion, filter}
use Rattle.std.specs.Map.{lookup}
use Rattle.std.specs.Prelude.{Result, Ok, Err, OnOk, OnErr, IfSome}
use Rattle.gix_base.specs.declared.hash.ObjectId.{ObjectId}
use Rattle.gix_revwalk.specs.declared.graph.Node.{Node}
use Rattle.gix_revwalk.specs.declared.graph.Row.{Row}
use Rattle.gix_revwalk.specs.declared.numbers.Number.{Number}
use Rattle.gix_revwalk.specs.declared.graph.commit.Commit.{Commit}
use Rattle.gix_revwalk.specs.History.{History, Entry, entry_at, same_id, parents_in, time_in}
use Rattle.gix_revwalk.specs.Numbers.{place_of, item_at}
use Rattle.gix_revwalk.specs.Pasts.{Pasts, Told, told_in}
use Rattle.gix_revwalk.specs.Nodes.{pair_of, node_ids, known_parents, IsRow, IsTold, AreNodes}
use Rattle.gix_revwalk.proofs.Ids.{same_id-true}
use Rattle.gix_revwalk.proofs.Kept.{Agree}
use Rattle.gix_revwalk.proofs.Places.{each-at}
use Rattle.gix_revwalk.proofs.NodeSteps.{held-at}
use Rattle.gix_revwalk.proofs.Filters.{filter-more}

-- A property that holds for the item at each place.
pub all-at : {X : Type 0} (P : X → Type 0) (xs : List X) → ((k : ℕ) (x : X) → item_at xs k ≡ Some x → P x) → AllByRecursion P xs
all-at P [] each = tt
all-at P (x ∷ xs) each = (each zero x refl, all-at P xs (λ k y at. each (suc k) y at))

-- History n is h with the commit d under k, which had none.
module _ (h n : History) (k : ObjectId) (d : Entry) (new : entry_at h k ≡ None) (put : (q : ObjectId) → entry_at n q ≡ cond (same_id k q) (Some d) (entry_at h q)) where
  -- Entries that were there are unchanged.
  pub entry-stays : (q : ObjectId) → is_some (entry_at h q) ≡ true → entry_at n q ≡ entry_at h q
  entry-stays q has =
      put q ∙ elim (same_id k q) as (λ b. same_id k q ≡ b → cond b (Some d) (entry_at h q) ≡ entry_at h q) [
        | true ↦ λ same. let none : entry_at h q ≡ None = ap (entry_at h) (sym (same_id-true k q same)) ∙ new in cc
        | false ↦ λ apart. refl
      ] refl

  pub agree-stays : {D A : Type 0} (m : ObjectId → Option (Commit D A)) → Agree h m → Agree n m
  agree-stays m agree id x e = entry-stays id (ap is_some (agree id x e)) ∙ agree id x e

  told-stays : (q : ObjectId) (o : Option Told) → IfSome o (IsTold h q) → IfSome o (IsTold n q)
  told-stays q None is = tt
  told-stays q (Some t) is =
      let e = entry-stays q is.0 in
      (ap is_some e ∙ is.0, is.1 ∙ ap time_in (sym e), is.2 ∙ ap parents_in (sym e))

  row-stays : (ids : List ObjectId) (edges : List Number) (id : ObjectId) (r : Option Row) → is_some (entry_at h id) ≡ true → IsRow h ids edges id r → IsRow n ids edges id r
  row-stays ids edges id None has is = tt
  row-stays ids edges id (Some r) has is =
      let e = entry-stays id has in
      let full : known_parents n id ≡ parents_in (entry_at n id) =
      subst (λ x. filter (λ p. is_some (entry_at n p)) (parents_in x) ≡ parents_in x) (sym e)
      (filter-more (λ p. is_some (entry_at h p)) (λ p. is_some (entry_at n p)) (λ p there. ap is_some (entry-stays p there) ∙ there) (parents_in (entry_at h id)) is.2) in
      (is.0, is.1 ∙ ap (map (place_of ids)) (is.2 ∙ ap parents_in (sym e) ∙ sym full), full)

  -- The nodes stay right, and so does what is remembered.
  pub nodes-stay : {D A : Type 0} (ns : List (Node (Commit D A))) (past : Pasts) (edges : List Number) (turn : ℕ)
      → Agree h (λ q. lookup (same_id q) (map pair_of ns)) → AreNodes h ns past edges turn → AreNodes n ns past edges turn
  nodes-stay ns past edges turn agree are = record {
    index = are.index;
    told = λ q. told-stays q (told_in past q) (are.told q);
    once = are.once;
    rows = all-at (λ m. IsRow n (node_ids ns) edges m.id m.row) ns (λ i m at.
        row-stays (node_ids ns) edges m.id m.row (ap is_some (agree m.id m.value (held-at h ns past edges turn i m are at)))
        (each-at (λ m. IsRow h (node_ids ns) edges m.id m.row) ns i m are.rows at));
    turns = are.turns;
    begun = are.begun;
  }

-- A graph after an insert into its source, successful or not.
pub graph-inserted : {D A X E : Type 0} (h n : History) (k : ObjectId) (d : Entry) (r : Result X E)
    → OnOk r (entry_at h k ≡ None) → OnOk r ((q : ObjectId) → entry_at n q ≡ cond (same_id k q) (Some d) (entry_at h q)) → OnErr r (n ≡ h)
    → (ns : List (Node (Commit D A))) (past : Pasts) (edges : List Number) (turn : ℕ)
    → Agree h (λ q. lookup (same_id q) (map pair_of ns)) × AreNodes h ns past edges turn
    → Agree n (λ q. lookup (same_id q) (map pair_of ns)) × AreNodes n ns past edges turn
graph-inserted h n k d (Ok x) new put same ns past edges turn is =
    (agree-stays h n k d new put (λ q. lookup (same_id q) (map pair_of ns)) is.0, nodes-stay h n k d new put ns past edges turn is.0 is.1)
graph-inserted h n k d (Err x) new put same ns past edges turn is = rw same is

-- A source whose insert failed has its old history.
pub same-on-err : {S X E : Type 0} (f : S → History) (a b : S) (r : Result X E) → OnErr r (a ≡ b) → OnErr r (f a ≡ f b)
same-on-err f a b (Ok x) same = tt
same-on-err f a b (Err x) same = ap f same
