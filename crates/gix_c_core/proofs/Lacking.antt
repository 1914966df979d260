-- The parents that a history lacks.
use Rattle.std.proofs.Common.{◌≡◌, true, false, cond, refl, ap, sym, subst, ◌∙◌, List, [], ◌∷◌, ◌++◌, ◌⊎◌, inl, inr, Option, Some, None, is_some, IsTrue, true≢false}
use Rattle.std.specs.List.{filter, list_any}
use Rattle.std.specs.List.Sorted.{IsStrictlySortedBy}
use Rattle.std.specs.Prelude.{not, ◌||◌}
use Rattle.std.specs.Ordering.{is_eq, eq_by_cmp}
use Rattle.std.specs.BTreeSet.{BTreeSet, contains}
use Rattle.std.specs.Set.{is_member}
use Rattle.std.specs.Cmp.Lexicographic.{texts_ties}
use Rattle.gix_base.specs.Hash.{id_order}
use Rattle.gix_base.specs.declared.hash.ObjectId.{ObjectId}
use Rattle.gix_revwalk.specs.History.{History, Entry, Has, entry_at, same_id, is_one_of, parents_in}
use Rattle.gix_revwalk.proofs.Ids.{same_id-itself}
use Rattle.gix_revwalk.proofs.Inserted.{entry-stays}
use Rattle.gix_revwalk.proofs.Members.{one_of-left, one_of-right, one_of-cases, one_of-filter, one_of-filtered}
use Rattle.gix_c_core.specs.Missing.{ListsMissing, AreLacked, is_lacked}
use Rattle.gix_c_core.specs.Noted.{IsParent, Remembers}

-- membership by the order of ids
pub by-order : (xs : List ObjectId) (q : ObjectId) → is_one_of xs q ≡ list_any (λ k. is_eq (id_order q k)) xs
by-order [] q = refl
by-order (x ∷ xs) q = ap (λ b. b || is_one_of xs q) (texts_ties q.0 x.0) ∙ ap (λ b. is_eq (id_order q x) || b) (by-order xs q)

-- a set of ids has the same members as the list that it is made of
pub set-holds : (ids : List ObjectId) (set : BTreeSet ObjectId) → ((q : ObjectId) → contains id_order set q ≡ is_member (eq_by_cmp id_order) ids q)
    → (q : ObjectId) → is_one_of set.keys q ≡ is_one_of ids q
set-holds ids set same q = by-order set.keys q ∙ same q ∙ sym (by-order ids q)

lacked-not : (h : History) (p : ObjectId) → IsTrue (is_lacked h p) → ¬ Has h p
lacked-not h p lacks has = true≢false (sym lacks ∙ ap not has)

not-lacked : (h : History) (p : ObjectId) → (¬ Has h p) → IsTrue (is_lacked h p)
not-lacked h p none = elim (is_some (entry_at h p)) as (λ b. is_some (entry_at h p) ≡ b → IsTrue (not b)) [
  | true ↦ λ has. absurd (none has)
  | false ↦ λ lacks. refl
] refl

-- what a list that is looked through leaves, sorted
pub sifted : (h : History) (ids found left : List ObjectId) → found ≡ filter (is_lacked h) ids
    → ((q : ObjectId) → is_one_of left q ≡ is_one_of found q) → IsStrictlySortedBy id_order left → AreLacked h ids left
sifted h ids found left is same order = record {
  lacked = λ p. (
    λ m. let at = one_of-filter (is_lacked h) ids p (subst (λ (l : List ObjectId). IsTrue (is_one_of l p)) is (sym (same p) ∙ m)) in (at.0, lacked-not h p at.1),
    λ k. same p ∙ subst (λ (l : List ObjectId). IsTrue (is_one_of l p)) (sym is) (one_of-filtered (is_lacked h) ids p k.0 (not-lacked h p k.1)),
  );
  rising = order;
}

-- they are the missing ones
pub all-missing : (h : History) (ids left : List ObjectId) → AreLacked h ids left → Remembers h ids → ListsMissing h left
all-missing h ids left l r = record {
  missing = λ p. (
    λ m. let at = (l.lacked p).0 m in (r.parents p at.0, at.1),
    λ k. (l.lacked p).1 (r.missing p k, k.1),
  );
  rising = l.rising;
}

-- and they are remembered
pub still-noted : (h : History) (ids left : List ObjectId) → AreLacked h ids left → Remembers h ids → Remembers h left
still-noted h ids left l r = record {
  parents = λ p m. r.parents p ((l.lacked p).0 m).0;
  missing = λ p k. (l.lacked p).1 (r.missing p k, k.1);
}

-- a history without commits has no parents
pub noted_empty : (h : History) (ids : List ObjectId) → ((id : ObjectId) → entry_at h id ≡ None) → ids ≡ [] → Remembers h ids
noted_empty h ids empty none = record {
  parents = λ p m. absurd (true≢false (sym (subst (λ (l : List ObjectId). IsTrue (is_one_of l p)) none m)));
  missing = λ p is. absurd (true≢false (sym (subst (λ (o : Option Entry). IsTrue (is_one_of (parents_in o) p)) (empty is.0.0) is.0.1)));
}

-- where each parent is a commit of the history none is missing
pub noted-closed : (h : History) (ids : List ObjectId) → ((a b : ObjectId) → IsTrue (is_one_of (parents_in (entry_at h a)) b) → Has h b) → ids ≡ [] → Remembers h ids
noted-closed h ids closed none = record {
  parents = λ p m. absurd (true≢false (sym (subst (λ (l : List ObjectId). IsTrue (is_one_of l p)) none m)));
  missing = λ p is. absurd (is.1 (closed is.0.0 p is.0.1));
}

-- n is h with the commit d under k, which had none
module _ (h n : History) (k : ObjectId) (d : Entry) (new : entry_at h k ≡ None) (put : (q : ObjectId) → entry_at n q ≡ cond (same_id k q) (Some d) (entry_at h q)) where
  stays : (c p : ObjectId) → IsTrue (is_one_of (parents_in (entry_at h c)) p) → IsTrue (is_one_of (parents_in (entry_at n c)) p)
  stays c p m = elim (is_some (entry_at h c)) as (λ b. is_some (entry_at h c) ≡ b → IsTrue (is_one_of (parents_in (entry_at n c)) p)) [
    | true ↦ λ has. rw (entry-stays h n k d new put c has) m
    | false ↦ λ lacks. absurd (none (entry_at h c) lacks m)
  ] refl
    where
      none : (o : Option Entry) → is_some o ≡ false → IsTrue (is_one_of (parents_in o) p) → ⊥
      none None e m = true≢false (sym m)
      none (Some x) e m = true≢false e

  came : (c p : ObjectId) → IsTrue (is_one_of (parents_in (entry_at n c)) p) → IsTrue (is_one_of (parents_in (entry_at h c)) p) ⊎ IsTrue (is_one_of d.parents p)
  came c p m = elim (same_id k c) as (λ b. IsTrue (is_one_of (parents_in (cond b (Some d) (entry_at h c))) p) → IsTrue (is_one_of (parents_in (entry_at h c)) p) ⊎ IsTrue (is_one_of d.parents p)) [
    | true ↦ λ m. inr m
    | false ↦ λ m. inl m
  ] (subst (λ (o : Option Entry). IsTrue (is_one_of (parents_in o) p)) (put c) m)

  pub noted-more : (ids : List ObjectId) → Remembers h ids → Remembers n (ids ++ d.parents)
  noted-more ids r = record {
    parents = λ p m. elim (one_of-cases ids d.parents p m) as (λ _. IsParent n p) [
      | inl old ↦ let at = r.parents p old in (at.0, stays at.0 p at.1)
      | inr more ↦ (k, subst (λ (o : Option Entry). IsTrue (is_one_of (parents_in o) p)) (sym (put k ∙ ap (λ b. cond b (Some d) (entry_at h k)) (same_id-itself k))) more)
    ];
    missing = λ p is. elim (came is.0.0 p is.0.1) as (λ _. IsTrue (is_one_of (ids ++ d.parents) p)) [
      | inl old ↦ one_of-left ids d.parents p (r.missing p ((is.0.0, old), (λ has. is.1 (ap is_some (entry-stays h n k d new put p has) ∙ has))))
      | inr more ↦ one_of-right ids d.parents p more
    ];
  }
