-- The pages of a list make up the list, if each begins after the last id of the page before.
use Rattle.std.proofs.Common.{◌≡◌, ℕ, zero, suc, true, false, cond, refl, ap, sym, subst, ◌∙◌, List, [], ◌∷◌, ◌++◌, ◌<◌, take, drop, Option, Some, None, IsTrue, inl, inr, append_assoc, arith}
use Rattle.std.specs.List.{AllByRecursion}
use Rattle.std.specs.List.Sorted.{IsStrictlySortedBy}
use Rattle.std.specs.Ordering.{is_gt, ordering_reverse}
use Rattle.std.specs.declared.cmp.Ordering.TheVariants.{Less, Equal, Greater}
use Rattle.std.proofs.lemmas.List.{take-append-drop}
use Rattle.gix_base.specs.Hash.{id_order}
use Rattle.gix_base.specs.declared.hash.ObjectId.{ObjectId}
use Rattle.gix_revwalk.specs.History.{History, is_one_of}
use Rattle.gix_revwalk.proofs.Members.{one_of-head, one_of-tail, one_of-cons_cases}
use Rattle.gix_spec.specs.declared.spec.Spec.{Spec}
use Rattle.gix_resolve.specs.ListMeaning.{ListsMeant, IsPage, past}
use Rattle.gix_resolve.specs.ListLaws.{PagesMakeUpTheList, ArePages, last_or, ids_of_pages}
use Rattle.gix_resolve.proofs.ListSorted.{order_total}

-- x is below each of these
abbrev AllAbove : ObjectId → List ObjectId → Type 0
AllAbove x xs = AllByRecursion (λ y. id_order x y ≡ Less) xs

-- a list that rises, one id after another
abbrev Rises : List ObjectId → Type 0
Rises [] = Unit {0}
Rises (x ∷ xs) = AllAbove x xs × Rises xs

rises : (xs : List ObjectId) → IsStrictlySortedBy id_order xs → Rises xs
unfolding IsStrictlySortedBy
rises [] s = tt
rises (x ∷ xs) s = (s.0, rises xs s.1)

not_both : (x y : ObjectId) → id_order x y ≡ Less → id_order y x ≡ Less → ⊥
not_both x y a b = let k : Less ≡ Greater = sym b ∙ order_total.antisymm y x ∙ ap ordering_reverse a in cc

not_itself : (x : ObjectId) → id_order x x ≡ Less → ⊥
not_itself x less = not_both x x less less

above : (x : ObjectId) (xs : List ObjectId) → AllAbove x xs → (c : ObjectId) → IsTrue (is_one_of xs c) → id_order x c ≡ Less
above x [] all c m = cc
above x (y ∷ ys) all c m = elim (one_of-cons_cases y ys c m) as (λ _. id_order x c ≡ Less) [
  | inl is ↦ subst (λ z. id_order x z ≡ Less) (sym is) all.0
  | inr k ↦ above x ys all.1 c k
]

-- two rising lists with the same members are one list
same_list : (xs ys : List ObjectId) → Rises xs → Rises ys → ((c : ObjectId) → IsTrue (is_one_of xs c) → IsTrue (is_one_of ys c)) → ((c : ObjectId) → IsTrue (is_one_of ys c) → IsTrue (is_one_of xs c)) → xs ≡ ys
same_list [] [] a b to from = refl
same_list [] (y ∷ ys) a b to from = let m : IsTrue false = from y (one_of-head y ys) in cc
same_list (x ∷ xs) [] a b to from = let m : IsTrue false = to x (one_of-head x xs) in cc
same_list (x ∷ xs) (y ∷ ys) a b to from = ap (λ z. z ∷ xs) heads ∙ ap (λ l. y ∷ l) (same_list xs ys a.1 b.1 to_rest from_rest)
  where
    heads : x ≡ y
    heads = elim (one_of-cons_cases y ys x (to x (one_of-head x xs))) as (λ _. x ≡ y) [
      | inl is ↦ is
      | inr k ↦ elim (one_of-cons_cases x xs y (from y (one_of-head y ys))) as (λ _. x ≡ y) [
        | inl is ↦ sym is
        | inr j ↦ absurd (not_both y x (above y ys b.0 x k) (above x xs a.0 y j))
      ]
    ]

    to_rest : (c : ObjectId) → IsTrue (is_one_of xs c) → IsTrue (is_one_of ys c)
    to_rest c m = elim (one_of-cons_cases y ys c (to c (one_of-tail x xs c m))) as (λ _. IsTrue (is_one_of ys c)) [
      | inl is ↦ absurd (not_itself x (subst (λ z. id_order x z ≡ Less) (is ∙ sym heads) (above x xs a.0 c m)))
      | inr k ↦ k
    ]

    from_rest : (c : ObjectId) → IsTrue (is_one_of ys c) → IsTrue (is_one_of xs c)
    from_rest c m = elim (one_of-cons_cases x xs c (from c (one_of-tail y ys c m))) as (λ _. IsTrue (is_one_of xs c)) [
      | inl is ↦ absurd (not_itself y (subst (λ z. id_order y z ≡ Less) (is ∙ heads) (above y ys b.0 c m)))
      | inr k ↦ k
    ]

-- the ids greater than an id of a rising list are those after it
all_past : (x : ObjectId) (vs : List ObjectId) → AllAbove x vs → past (Some x) vs ≡ vs
all_past x [] all = refl
all_past x (v ∷ vs) all =
    let gt : is_gt (id_order v x) ≡ true = ap is_gt (order_total.antisymm v x ∙ ap ordering_reverse all.0) in
    ap (λ b. cond b (v ∷ past (Some x) vs) (past (Some x) vs)) gt ∙ ap (λ l. v ∷ l) (all_past x vs all.1)

all-item : (x : ObjectId) (us vs : List ObjectId) (u : ObjectId) → AllAbove u (us ++ x ∷ vs) → id_order u x ≡ Less
all-item x [] vs u all = all.0
all-item x (w ∷ us) vs u all = all-item x us vs u all.1

past_item : (x : ObjectId) (us vs : List ObjectId) → Rises (us ++ x ∷ vs) → past (Some x) (us ++ x ∷ vs) ≡ vs
past_item x [] vs r =
    let not_gt : is_gt (id_order x x) ≡ false = elim (id_order x x) as (λ o. id_order x x ≡ o → is_gt o ≡ false) [
      | Less ↦ λ _. refl
      | Equal ↦ λ _. refl
      | Greater ↦ λ e. absurd (let k : Greater ≡ Less = sym e ∙ order_total.antisymm x x ∙ ap ordering_reverse e in cc)
    ] refl in
    ap (λ b. cond b (x ∷ past (Some x) vs) (past (Some x) vs)) not_gt ∙ all_past x vs r.0
past_item x (u ∷ us) vs r =
    let not_gt : is_gt (id_order u x) ≡ false = ap is_gt (all-item x us vs u r.0) in
    ap (λ b. cond b (u ∷ past (Some x) (us ++ x ∷ vs)) (past (Some x) (us ++ x ∷ vs))) not_gt ∙ past_item x us vs r.1

-- the ids greater than the last of some ids at the front
past_last : (bound : Option ObjectId) (us ps vs : List ObjectId) → Rises (us ++ (ps ++ vs)) → past bound (us ++ (ps ++ vs)) ≡ ps ++ vs → past (last_or bound ps) (us ++ (ps ++ vs)) ≡ vs
past_last bound us [] vs r is = is
past_last bound us (p ∷ ps) vs r is =
    subst (λ l. past (last_or (Some p) ps) l ≡ vs) (append_assoc us (p ∷ []) (ps ++ vs))
    (past_last (Some p) (us ++ p ∷ []) ps vs (subst Rises (sym (append_assoc us (p ∷ []) (ps ++ vs))) r)
    (subst (λ l. past (Some p) l ≡ ps ++ vs) (sym (append_assoc us (p ∷ []) (ps ++ vs))) (past_item p us (ps ++ vs) r)))

none_taken : (n : ℕ) (xs : List ObjectId) → 0 < n → [] ≡ take n xs → xs ≡ []
none_taken zero xs lt is = absurd (omega arith)
none_taken (suc n) [] lt is = refl
none_taken (suc n) (x ∷ xs) lt is = cc

module _ (h : History) (spec : Spec) (limit : ℕ) (ids : List ObjectId) (some : 0 < limit) (lists : ListsMeant h spec ids) where
  page_of : (bound : Option ObjectId) (page : List ObjectId) → IsPage h spec bound limit page → page ≡ take limit (past bound ids)
  page_of bound page is =
      is.2 ∙ ap (λ l. take limit (past bound l))
      (same_list is.0 ids (rises is.0 is.1.rising) (rises ids lists.rising) (λ c m. (lists.meant c).1 ((is.1.meant c).0 m)) (λ c m. (is.1.meant c).1 ((lists.meant c).0 m)))

  make_up : (bound : Option ObjectId) (us vs : List ObjectId) (pages : List (List ObjectId)) → ids ≡ us ++ vs → past bound ids ≡ vs → ArePages h spec limit bound pages → ids_of_pages pages ≡ vs
  make_up bound us vs [] is at page = sym (sym at ∙ none_taken limit (past bound ids) some (page_of bound [] page))
  make_up bound us vs (page ∷ pages) is at (here, more) =
      let ps = take limit vs in
      let rest = drop limit vs in
      let page_is : page ≡ ps = page_of bound page here ∙ ap (take limit) at in
      let ids_is : ids ≡ us ++ (ps ++ rest) = is ∙ ap (λ l. us ++ l) (sym (take-append-drop limit vs)) in
      let next : past (last_or bound ps) ids ≡ rest =
      subst (λ l. past (last_or bound ps) l ≡ rest) (sym ids_is)
      (past_last bound us ps rest (subst Rises ids_is (rises ids lists.rising)) (subst (λ l. past bound l ≡ ps ++ rest) ids_is (at ∙ sym (take-append-drop limit vs)))) in
      ap (λ l. l ++ ids_of_pages pages) page_is
      ∙ ap (λ l. ps ++ l) (make_up (last_or bound ps) (us ++ ps) rest pages (ids_is ∙ sym (append_assoc us ps rest)) next (subst (λ l. ArePages h spec limit (last_or bound l) pages) page_is more))
      ∙ take-append-drop limit vs

pub pages_make_up : PagesMakeUpTheList
pages_make_up h spec limit pages ids some are lists = make_up h spec limit ids some lists None [] ids pages refl refl are
