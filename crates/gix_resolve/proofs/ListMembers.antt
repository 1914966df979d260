-- The members of the sets that specs mean, as lists.
use Rattle.std.proofs.Common.{◌≡◌, ◌==◌, ◌<◌, ℕ, length, true, false, refl, ap, sym, subst, ◌∙◌, List, [], ◌∷◌, ◌++◌, ◌⊎◌, inl, inr, is_some, Option, Some, None, Result, Ok, Err, IfOk, OnOk, IsTrue, true≢false, arith}
use Rattle.std.specs.List.{AllByRecursion, IsDistinct}
use Rattle.std.proofs.lemmas.List.{map-append, nil_from_length}
use Rattle.std.proofs.lemmas.Map.Keys.{IsDistinct-head, IsDistinct-tail, IsDistinct-cons}
use Rattle.gix_base.specs.declared.hash.ObjectId.{ObjectId}
use Rattle.gix_revwalk.specs.History.{History, Entry, Has, entry_at, parents_in, same_id, is_one_of, IsAncestor, IsAncestorOfOne, IsBeyond}
use Rattle.gix_revwalk.specs.Sizes.{Lists}
use Rattle.gix_revwalk.proofs.Ids.{same_id-true}
use Rattle.gix_revwalk.proofs.Members.{nothing, one_is_distinct, one_of-left, one_of-right, one_of-cases, one_of-head, one_of-tail, one_of-single}
use Rattle.gix_revwalk.specs.Graph.{Graphed, held_len}
use Rattle.gix_revwalk.specs.Number.{place_in}
use Rattle.gix_revwalk.specs.declared.numbers.Number.{Number}
use Rattle.gix_merge_base.specs.Front.{KeepsNumbers}
use Rattle.gix_merge_base.specs.PaintQueue.{id_at, ids_at}
use Rattle.gix_spec.specs.declared.spec.Spec.{Spec}
use Rattle.gix_spec.specs.declared.spec.Spec.TheVariants.{Include, Exclude, Range, Merge, IncludeOnlyParents, ExcludeParents}
use Rattle.gix_resolve.specs.ListMeaning.{IsMeant}
use Rattle.gix_resolve.specs.ListWalk.{AreJust}

-- the ancestors of one commit
pub of-one : (h : History) (a c : ObjectId) → IsAncestorOfOne h (a ∷ []) c → IsAncestor h a c
of-one h a c k = subst (λ z. IsAncestor h z c) (one_of-single a k.0 k.1) k.2

pub as-one : (h : History) (a c : ObjectId) → IsAncestor h a c → IsAncestorOfOne h (a ∷ []) c
as-one h a c k = (a, one_of-head a [], k)

pub of-none : (h : History) (c : ObjectId) → ¬ IsAncestorOfOne h [] c
of-none h c k = cc

-- no members
lists-none : (P : ObjectId → Type 0) → ((c : ObjectId) → ¬ P c) → Lists [] P
lists-none P none = (nothing, λ c. ((λ m. cc), (λ q. absurd (none c q))))

-- what holds of an answer
pub if-ok : {T E : Type 0} (r : Result T E) (P Q : T → Type 0) → ((x : T) → P x → Q x) → IfOk r P → IfOk r Q
if-ok (Ok x) P Q f k = f x k
if-ok (Err e) P Q f k = tt

pub if-both : {T E : Type 0} (r : Result T E) (P Q R : T → Type 0) → ((x : T) → P x → Q x → R x) → IfOk r P → IfOk r Q → IfOk r R
if-both (Ok x) P Q R f k l = f x k l
if-both (Err e) P Q R f k l = tt

pub on-ok : {T E : Type 0} (r : Result T E) {P Q : Type 0} → (P → Q) → OnOk r P → OnOk r Q
on-ok (Ok x) f k = f k
on-ok (Err e) f k = tt

-- lists of equal sets
pub lists-same : (xs : List ObjectId) (P Q : ObjectId → Type 0) → ((c : ObjectId) → P c → Q c) → ((c : ObjectId) → Q c → P c) → Lists xs P → Lists xs Q
lists-same xs P Q to from k = (k.0, λ c. ((λ m. to c ((k.1 c).0 m)), (λ q. (k.1 c).1 (from c q))))

pub lists-include : (h : History) (a : ObjectId) (xs : List ObjectId) → Lists xs (IsBeyond h [] (a ∷ [])) → Lists xs (IsMeant h (Include a))
lists-include h a xs k = lists-same xs (IsBeyond h [] (a ∷ [])) (IsMeant h (Include a)) (λ c p. of-one h a c p.0) (λ c q. (as-one h a c q, of-none h c)) k

pub lists-exclude : (h : History) (spec : Spec) (a : ObjectId) (xs : List ObjectId) → spec ≡ Exclude a → xs ≡ [] → Lists xs (IsMeant h spec)
lists-exclude h spec a xs of is = rw (of, is) (lists-none (IsMeant h (Exclude a)) (λ c q. q))

pub lists-range : (h : History) (a b : ObjectId) (xs : List ObjectId) → Lists xs (IsBeyond h (a ∷ []) (b ∷ [])) → Lists xs (IsMeant h (Range a b))
lists-range h a b xs k = lists-same xs (IsBeyond h (a ∷ []) (b ∷ [])) (IsMeant h (Range a b)) (λ c p. (of-one h b c p.0, λ q. p.1 (as-one h a c q))) (λ c q. (as-one h b c q.0, λ p. q.1 (of-one h a c p))) k

pub lists-parents : (h : History) (a : ObjectId) (ps xs : List ObjectId) → ps ≡ parents_in (entry_at h a) → Lists xs (IsBeyond h [] ps) → Lists xs (IsMeant h (IncludeOnlyParents a))
lists-parents h a ps xs is k = rw (sym is) (lists-same xs (IsBeyond h [] ps) (IsAncestorOfOne h ps) (λ c p. p.0) (λ c q. (q, of-none h c)) k)

-- a commit that the history does not have has no parents
pub no_parents : (e : Option Entry) → is_some e ≡ false → parents_in e ≡ []
no_parents None lacks = refl
no_parents (Some x) lacks = absurd (true≢false lacks)

pub lists-alone : (h : History) (a : ObjectId) (xs : List ObjectId) → xs ≡ a ∷ [] → Has h a → Lists xs (IsMeant h (ExcludeParents a))
lists-alone h a xs is has = rw is (one_is_distinct a, λ c. ((λ m. (has, one_of-single a c m)), (λ q. subst (λ z. IsTrue (is_one_of (a ∷ []) z)) (sym q.1) (one_of-head a []))))

pub lists-not_alone : (h : History) (a : ObjectId) (xs : List ObjectId) → xs ≡ [] → is_some (entry_at h a) ≡ false → Lists xs (IsMeant h (ExcludeParents a))
lists-not_alone h a xs is lacks = rw is (lists-none (IsMeant h (ExcludeParents a)) (λ c q. true≢false (sym q.0 ∙ lacks)))

-- two lists that share nothing, one after the other
all-append : {X : Type 0} (P : X → Type 0) (xs ys : List X) → AllByRecursion P xs → AllByRecursion P ys → AllByRecursion P (xs ++ ys)
all-append P [] ys a b = b
all-append P (x ∷ xs) ys a b = (a.0, all-append P xs ys a.1 b)

all-members : (P : ObjectId → Type 0) (ys : List ObjectId) → ((y : ObjectId) → IsTrue (is_one_of ys y) → P y) → AllByRecursion P ys
all-members P [] each = tt
all-members P (y ∷ ys) each = (each y (one_of-head y ys), all-members P ys (λ z m. each z (one_of-tail y ys z m)))

pub distinct-append : (xs ys : List ObjectId) → IsDistinct same_id xs → IsDistinct same_id ys → ((c : ObjectId) → IsTrue (is_one_of xs c) → ¬ IsTrue (is_one_of ys c)) → IsDistinct same_id (xs ++ ys)
distinct-append [] ys a b apart = b
distinct-append (x ∷ xs) ys a b apart =
    IsDistinct-cons same_id x (xs ++ ys)
    (all-append (λ y. same_id x y ≡ false) xs ys (IsDistinct-head same_id x xs a) (all-members (λ y. same_id x y ≡ false) ys (λ y m.
    elim (same_id x y) as (λ b. same_id x y ≡ b → b ≡ false) [
      | true ↦ λ e. absurd (apart x (one_of-head x xs) (subst (λ z. IsTrue (is_one_of ys z)) (sym (same_id-true x y e)) m))
      | false ↦ λ e. refl
    ] refl)))
    (distinct-append xs ys (IsDistinct-tail same_id x xs a) b (λ c m. apart c (one_of-tail x xs c m)))

-- the ancestors of just one of two
pub lists-either : (h : History) (a b : ObjectId) (xs : List ObjectId) → Lists xs (λ c. IsBeyond h (b ∷ []) (a ∷ []) c ⊎ IsBeyond h (a ∷ []) (b ∷ []) c) → Lists xs (IsMeant h (Merge a b))
lists-either h a b xs k = lists-same xs (λ c. IsBeyond h (b ∷ []) (a ∷ []) c ⊎ IsBeyond h (a ∷ []) (b ∷ []) c) (IsMeant h (Merge a b)) to from k
  where
    to : (c : ObjectId) → IsBeyond h (b ∷ []) (a ∷ []) c ⊎ IsBeyond h (a ∷ []) (b ∷ []) c → IsMeant h (Merge a b) c
    to c (inl p) = inl (of-one h a c p.0, λ q. p.1 (as-one h b c q))
    to c (inr p) = inr (of-one h b c p.0, λ q. p.1 (as-one h a c q))

    from : (c : ObjectId) → IsMeant h (Merge a b) c → IsBeyond h (b ∷ []) (a ∷ []) c ⊎ IsBeyond h (a ∷ []) (b ∷ []) c
    from c (inl k) = inl (as-one h a c k.0, λ q. k.1 (of-one h b c q))
    from c (inr k) = inr (as-one h b c k.0, λ q. k.1 (of-one h a c q))

-- two lists of numbers, one after the other
pub lists-merge : (h : History) (a b : ObjectId) (xs ys zs : List ObjectId) → zs ≡ xs ++ ys → Lists xs (IsBeyond h (b ∷ []) (a ∷ [])) → Lists ys (IsBeyond h (a ∷ []) (b ∷ [])) → Lists zs (IsMeant h (Merge a b))
lists-merge h a b xs ys zs is left right = rw is (lists-either h a b (xs ++ ys) (
  distinct-append xs ys left.0 right.0 (λ c m n. ((right.1 c).0 n).1 ((left.1 c).0 m).0),
  λ c. ((λ m. to c m), (λ q. from c q)),
))
  where
    to : (c : ObjectId) → IsTrue (is_one_of (xs ++ ys) c) → IsBeyond h (b ∷ []) (a ∷ []) c ⊎ IsBeyond h (a ∷ []) (b ∷ []) c
    to c m = elim (one_of-cases xs ys c m) as (λ _. IsBeyond h (b ∷ []) (a ∷ []) c ⊎ IsBeyond h (a ∷ []) (b ∷ []) c) [
      | inl k ↦ inl ((left.1 c).0 k)
      | inr k ↦ inr ((right.1 c).0 k)
    ]

    from : (c : ObjectId) → IsBeyond h (b ∷ []) (a ∷ []) c ⊎ IsBeyond h (a ∷ []) (b ∷ []) c → IsTrue (is_one_of (xs ++ ys) c)
    from c (inl k) = one_of-left xs ys c ((left.1 c).1 k)
    from c (inr k) = one_of-right xs ys c ((right.1 c).1 k)

-- lists of numbers: none, one, and those of two walks of which the second keeps the numbers of the
-- first
module _ {S T : Type 0} where
  pub just-none : (g : Graphed S T) (P : ObjectId → Type 0) (ns : List Number) → ns ≡ [] → Lists [] P → AreJust g ns P
  just-none g P ns is lists = subst (λ l. AreJust g l P) (sym is) (tt, lists)

  pub just-one : (g : Graphed S T) (h : History) (a : ObjectId) (n : Number) (ns : List Number) → ns ≡ n ∷ [] → place_in n < held_len g → id_at g (place_in n) ≡ a → Has h a → AreJust g ns (IsMeant h (ExcludeParents a))
  just-one g h a n ns is within at has =
      subst (λ l. AreJust g l (IsMeant h (ExcludeParents a))) (sym is) ((within, tt), lists-alone h a (ids_at g (n ∷ [])) (ap (λ z. z ∷ []) at) has)

  pub just-merge : (h : History) (a b : ObjectId) (m n : Graphed S T) (xs ys zs : List Number) → zs ≡ xs ++ ys → KeepsNumbers m n → AreJust m xs (IsBeyond h (b ∷ []) (a ∷ [])) → AreJust n ys (IsBeyond h (a ∷ []) (b ∷ []))
      → AreJust n zs (IsMeant h (Merge a b))
  just-merge h a b m n xs ys zs is keeps left right =
      let kept = keeps xs left.0 in
      subst (λ l. AreJust n l (IsMeant h (Merge a b))) (sym is) (
        all-append (λ (k : Number). place_in k < held_len n) xs ys kept.0 right.0,
        lists-merge h a b (ids_at n xs) (ids_at n ys) (ids_at n (xs ++ ys)) (map-append (λ (k : Number). id_at n (place_in k)) xs ys) (subst (λ l. Lists l (IsBeyond h (b ∷ []) (a ∷ []))) (sym kept.1) left.1) right.1,
      )

  -- of none there are no ids
  pub none-listed : (g : Graphed S T) (P : ObjectId → Type 0) (ns : List Number) (ids : List ObjectId) → ns ≡ [] → ids ≡ [] → AreJust g ns P → Lists ids P
  none-listed g P ns ids none empty just = subst (λ l. Lists l P) (sym empty) (subst (λ l. Lists (ids_at g l) P) none just.1)

-- whether there is one
zero_from : (n : ℕ) → (n == 0) ≡ true → n ≡ 0
zero_from n e = grind arith

pub no_items : {X : Type 0} (xs : List X) (n : ℕ) → n ≡ length xs → (n == 0) ≡ true → xs ≡ []
no_items xs n is none = nil_from_length xs (sym is ∙ zero_from n none)

pub some_items : {X : Type 0} (xs : List X) (n : ℕ) → n ≡ length xs → (n == 0) ≡ false → xs ≡ [] → ⊥
some_items xs n is some none = true≢false (sym (ap (λ k. k == 0) (is ∙ ap length none)) ∙ some)
