-- Handing to the parents that a history has is handing to all parents.
use Rattle.std.proofs.Common.{◌≡◌, Bool, true, false, cond, refl, ap, sym, subst, ◌∙◌, List, [], ◌∷◌, ◌⊎◌, inl, inr, Some, map, IsTrue, is_some, arith}
use Rattle.std.specs.Option.{unwrap_or}
use Rattle.std.specs.List.{filter}
use Rattle.gix_base.specs.declared.hash.ObjectId.{ObjectId}
use Rattle.gix_revwalk.specs.History.{History, Has, entry_at, is_one_of}
use Rattle.gix_revwalk.specs.Graph.{Graphed, held_ids}
use Rattle.gix_revwalk.specs.Number.{place_in}
use Rattle.gix_revwalk.specs.Numbers.{number_at, Grows}
use Rattle.gix_revwalk.specs.declared.numbers.Number.{Number}
use Rattle.gix_revwalk.proofs.Members.{one_of-head, one_of-tail, one_of-cons_cases}
use Rattle.gix_revwalk.proofs.Places.{number-within, place-item}
use Rattle.gix_revwalk.proofs.Growth.{named-there, named-grown, len-grown}
use Rattle.gix_merge_base.specs.PaintSteps.{Hands}
use Rattle.gix_merge_base.specs.Marks.{MarkSet, HasMarksOf}
use Rattle.gix_merge_base.specs.PaintQueue.{id_at, queued_ids, ids_at, AreIn, AreHeld}
use Rattle.gix_merge_base.proofs.Handing.{hands_none, hands_more}

pub one_of-filter : (p : ObjectId → Bool) (xs : List ObjectId) (q : ObjectId) → IsTrue (is_one_of (filter p xs) q) → IsTrue (is_one_of xs q) × IsTrue (p q)
one_of-filter p [] q k = cc
one_of-filter p (x ∷ xs) q k =
    elim (p x) as (λ b. p x ≡ b → IsTrue (is_one_of (cond b (x ∷ filter p xs) (filter p xs)) q) → IsTrue (is_one_of (x ∷ xs) q) × IsTrue (p q)) [
      | true ↦ λ e k. elim (one_of-cons_cases x (filter p xs) q k) as (λ _. IsTrue (is_one_of (x ∷ xs) q) × IsTrue (p q)) [
        | inl is ↦ (subst (λ z. IsTrue (is_one_of (x ∷ xs) z)) (sym is) (one_of-head x xs), subst (λ z. IsTrue (p z)) (sym is) e)
        | inr r ↦ let i = one_of-filter p xs q r in (one_of-tail x xs q i.0, i.1)
      ]
      | false ↦ λ e k. let i = one_of-filter p xs q k in (one_of-tail x xs q i.0, i.1)
    ] refl k

pub filter-one_of : (p : ObjectId → Bool) (xs : List ObjectId) (q : ObjectId) → IsTrue (is_one_of xs q) → IsTrue (p q) → IsTrue (is_one_of (filter p xs) q)
filter-one_of p [] q k t = cc
filter-one_of p (x ∷ xs) q k t =
    elim (one_of-cons_cases x xs q k) as (λ _. IsTrue (is_one_of (filter p (x ∷ xs)) q)) [
      | inl is ↦ let px : p x ≡ true = subst (λ z. IsTrue (p z)) is t in rw px (subst (λ z. IsTrue (is_one_of (x ∷ filter p xs) z)) (sym is) (one_of-head x (filter p xs)))
      | inr r ↦ let i = filter-one_of p xs q r t in elim (p x) as (λ b. IsTrue (is_one_of (cond b (x ∷ filter p xs) (filter p xs)) q)) [
        | true ↦ one_of-tail x (filter p xs) q i
        | false ↦ i
      ]
    ]

pub hands_known : (h : History) (w : MarkSet) (ps : List ObjectId) (m m' : ObjectId → MarkSet) (q q' : List ObjectId) → Hands h w (filter (λ p. is_some (entry_at h p)) ps) m q m' q' → Hands h w ps m q m' q'
hands_known h w ps m m' q q' k = record {
  more = k.more;
  result = k.result;
  changed = k.changed;
  stay = k.stay;
  from = λ c x. elim (k.from c x) as (λ _. IsTrue (is_one_of q c) ⊎ (IsTrue (is_one_of ps c) × Has h c × HasMarksOf w (m' c))) [ inl y ↦ inl y | inr y ↦ inr ((one_of-filter _ ps c y.0).0, y.1, y.2) ];
  one = λ c x. elim (k.one c x) as (λ _. IsTrue (m c).one ⊎ (IsTrue w.one × IsTrue (is_one_of ps c) × Has h c)) [ inl y ↦ inl y | inr y ↦ inr (y.0, (one_of-filter _ ps c y.1).0, y.2) ];
  two = λ c x. elim (k.two c x) as (λ _. IsTrue (m c).two ⊎ (IsTrue w.two × IsTrue (is_one_of ps c) × Has h c)) [ inl y ↦ inl y | inr y ↦ inr (y.0, (one_of-filter _ ps c y.1).0, y.2) ];
  stale = λ c x. elim (k.stale c x) as (λ _. IsTrue (m c).stale ⊎ (IsTrue w.stale × IsTrue (is_one_of ps c) × Has h c)) [ inl y ↦ inl y | inr y ↦ inr (y.0, (one_of-filter _ ps c y.1).0, y.2) ];
  gets = λ p x has. k.gets p (filter-one_of (λ p. is_some (entry_at h p)) ps p x has) has;
  spends = k.spends;
}

-- the same marks at first
pub hands_first : (h : History) (w : MarkSet) (ps : List ObjectId) (m m1 m2 : ObjectId → MarkSet) (q q1 q2 : List ObjectId) → ((c : ObjectId) → m1 c ≡ m c) → q1 ≡ q → Hands h w ps m1 q1 m2 q2 → Hands h w ps m q m2 q2
hands_first h w ps m m1 m2 q q1 q2 e d k = hands_more h w [] ps m m1 m2 q q1 q2 (hands_none h w m m1 q q1 e d [] (λ p x has. cc)) k

-- numbers of ids name them
pub numbers-ids : {S T : Type 0} (g : Graphed S T) (ns : List Number) (xs : List ObjectId) → map (λ n. Some (place_in n)) ns ≡ map (number_at g) xs → AreIn g ns × (ids_at g ns ≡ xs)
numbers-ids g [] [] e = (tt, refl)
numbers-ids g [] (x ∷ xs) e = cc
numbers-ids g (n ∷ ns) [] e = cc
numbers-ids g (n ∷ ns) (x ∷ xs) e =
    let head : number_at g x ≡ Some (place_in n) = cc in
    let rest : map (λ n. Some (place_in n)) ns ≡ map (number_at g) xs = cc in
    let i = numbers-ids g ns xs rest in
    let is : id_at g (place_in n) ≡ x = ap (λ o. unwrap_or o (record { 0 = [] })) (place-item (held_ids g) x (place_in n) head) in
    ((number-within g.held x (place_in n) head, i.0), ap (λ z. z ∷ ids_at g ns) is ∙ ap (λ l. x ∷ l) i.1)

-- what is queued stays where more is held
pub ids-grown-queue : {S T K : Type 0} (m n : Graphed S T) → Grows m n → (ps : List (K × Number)) → AreHeld m ps → queued_ids n ps ≡ queued_ids m ps
ids-grown-queue m n grows [] all = refl
ids-grown-queue m n grows (p ∷ ps) all =
    let there = named-there m (place_in p.1) all.0 in
    let a : id_at m (place_in p.1) ≡ there.0 = ap (λ o. unwrap_or o (record { 0 = [] })) there.1 in
    let b : id_at n (place_in p.1) ≡ there.0 = ap (λ o. unwrap_or o (record { 0 = [] })) (named-grown m n grows (place_in p.1) there.0 there.1) in
    ap (λ z. z ∷ queued_ids n ps) (b ∙ sym a) ∙ ap (λ l. id_at m (place_in p.1) ∷ l) (ids-grown-queue m n grows ps all.1)

pub held-grown : {S T K : Type 0} (m n : Graphed S T) → Grows m n → (ps : List (K × Number)) → AreHeld m ps → AreHeld n ps
held-grown m n grows [] all = tt
held-grown m n grows (p ∷ ps) all = let le = len-grown m n grows in let lt = all.0 in (omega arith, held-grown m n grows ps all.1)
