-- Handing marks to ids, one after another.
use Rattle.std.proofs.Common.{◌≡◌, ℕ, Bool, true, false, cond, refl, ap, sym, subst, ◌∙◌, List, [], ◌∷◌, ◌++◌, ◌⊎◌, inl, inr, ◌||◌, ◌&&◌, not, IsTrue, ◌+◌, ◌≤◌, ◌<◌, length, arith, take, get_or, add-one, zero, suc}
use Rattle.std.specs.List.Sorted.{IsPermutation}
use Rattle.std.proofs.lemmas.List.Sorted.{list_any-IsPermutation, length_permutation}
use Rattle.std.proofs.Math.Seq.{take-suc}
use Rattle.gix_base.specs.declared.hash.ObjectId.{ObjectId}
use Rattle.gix_revwalk.specs.History.{History, Has, is_one_of, same_id}
use Rattle.gix_merge_base.specs.Marks.{MarkSet, HasMarksOf, joined, has_marks, level, marks_in}
use Rattle.gix_merge_base.specs.PaintSteps.{Hands, total}
use Rattle.gix_revwalk.proofs.Ids.{same_id-true, same_id-itself}
use Rattle.gix_revwalk.proofs.Members.{one_of-left, one_of-right, one_of-cases, one_of-single, one_of-head, one_of-tail, one_of-cons_cases}
use Rattle.gix_merge_base.proofs.Painting.{below-itself, below-trans, or_either, or_right, and_both}

or_left : (a b : Bool) → IsTrue a → IsTrue (a || b)
or_left true b h = refl
or_left false b h = cc

pub below-joined : (w a : MarkSet) → HasMarksOf a (joined w a) × HasMarksOf w (joined w a)
below-joined w a = (
  record { one = λ h. or_right w.one a.one h; two = λ h. or_right w.two a.two h; stale = λ h. or_right w.stale a.stale h },
  record { one = λ h. or_left w.one a.one h; two = λ h. or_left w.two a.two h; stale = λ h. or_left w.stale a.stale h },
)

implied : (a b : Bool) → IsTrue (not a || b) → IsTrue a → IsTrue b
implied true b h k = h
implied false b h k = cc

pub below-from_test : (a w : MarkSet) → IsTrue (has_marks a w) → HasMarksOf w a
below-from_test a w h =
    let p = and_both (not w.one || a.one) _ h in
    let q = and_both (not w.two || a.two) _ p.1 in
    record { one = implied w.one a.one p.0; two = implied w.two a.two q.0; stale = implied w.stale a.stale q.1 }

no_less : (w a : Bool) → level a ≤ level (w || a)
no_less true true = omega arith
no_less true false = omega arith
no_less false a = omega arith

one_more : (w a : Bool) → (not w || a) ≡ false → level a + 1 ≤ level (w || a)
one_more true true h = cc
one_more true false h = omega arith
one_more false a h = cc

and_false : (x y : Bool) → (x && y) ≡ false → (x ≡ false) ⊎ (y ≡ false)
and_false true y h = inr h
and_false false y h = inl refl

pub marks_more : (w a : MarkSet) → has_marks a w ≡ false → marks_in a + 1 ≤ marks_in (joined w a)
marks_more w a h =
    let x = no_less w.one a.one in
    let y = no_less w.two a.two in
    let z = no_less w.stale a.stale in
    elim (and_false (not w.one || a.one) ((not w.two || a.two) && (not w.stale || a.stale)) h) as (λ _. marks_in a + 1 ≤ marks_in (joined w a)) [
      | inl e ↦ let k = one_more w.one a.one e in omega arith
      | inr e ↦ elim (and_false (not w.two || a.two) (not w.stale || a.stale) e) as (λ _. marks_in a + 1 ≤ marks_in (joined w a)) [
        | inl d ↦ let k = one_more w.two a.two d in omega arith
        | inr d ↦ let k = one_more w.stale a.stale d in omega arith
      ]
    ]

-- marks that grow at each id, and by one at p
pub total_no_less : (ids : List ObjectId) (m m' : ObjectId → MarkSet) → ((c : ObjectId) → marks_in (m c) ≤ marks_in (m' c)) → total ids m ≤ total ids m'
total_no_less [] m m' k = omega arith
total_no_less (x ∷ xs) m m' k = let a = k x in let b = total_no_less xs m m' k in omega arith

pub total_more : (ids : List ObjectId) (m m' : ObjectId → MarkSet) (p : ObjectId) → ((c : ObjectId) → marks_in (m c) ≤ marks_in (m' c)) → marks_in (m p) + 1 ≤ marks_in (m' p)
    → IsTrue (is_one_of ids p) → total ids m + 1 ≤ total ids m'
total_more [] m m' p k more h = cc
total_more (x ∷ xs) m m' p k more h =
    elim (one_of-cons_cases x xs p h) as (λ _. total (x ∷ xs) m + 1 ≤ total (x ∷ xs) m') [
      | inl is ↦ let a : marks_in (m x) + 1 ≤ marks_in (m' x) = subst (λ z. marks_in (m z) + 1 ≤ marks_in (m' z)) is more in let b = total_no_less xs m m' k in omega arith
      | inr r ↦ let a = k x in let b = total_more xs m m' p k more r in omega arith
    ]

level_grows : (a b : Bool) → (IsTrue a → IsTrue b) → level a ≤ level b
level_grows true b h = rw (h refl) (omega arith)
level_grows false b h = omega arith

pub marks_grow : (a b : MarkSet) → HasMarksOf a b → marks_in a ≤ marks_in b
marks_grow a b g = let x = level_grows a.one b.one g.one in let y = level_grows a.two b.two g.two in let z = level_grows a.stale b.stale g.stale in omega arith

pub hands_none : (h : History) (w : MarkSet) (m m' : ObjectId → MarkSet) (q q' : List ObjectId) → ((c : ObjectId) → m' c ≡ m c) → q' ≡ q → (ps : List ObjectId)
    → ((p : ObjectId) → IsTrue (is_one_of ps p) → Has h p → HasMarksOf w (m p)) → Hands h w ps m q m' q'
hands_none h w m m' q q' e d ps has = record {
  more = λ c. rw (e c) (below-itself (m c));
  result = λ c. ap (λ z. z.result) (e c);
  changed = λ c. inl (e c);
  stay = λ c k. rw d k;
  from = λ c k. inl (rw (← d) k);
  one = λ c k. inl (subst (λ z. IsTrue z.one) (e c) k);
  two = λ c k. inl (subst (λ z. IsTrue z.two) (e c) k);
  stale = λ c k. inl (subst (λ z. IsTrue z.stale) (e c) k);
  gets = λ p k has_p. rw (e p) (has p k has_p);
  spends = λ ids covers. let t : total ids m ≤ total ids m' = total_no_less ids m m' (λ c. rw (e c) (omega arith)) in rw d (omega arith);
}

-- the marks go to id, which is queued
pub hands_one : (h : History) (w : MarkSet) (id : ObjectId) (m m' : ObjectId → MarkSet) (q q' : List ObjectId) → Has h id → has_marks (m id) w ≡ false
    → ((c : ObjectId) → m' c ≡ cond (same_id id c) (joined w (m c)) (m c)) → IsPermutation (id ∷ q) q' → Hands h w (id ∷ []) m q m' q'
hands_one h w id m m' q q' has lacking e perm =
    let inside : (c : ObjectId) → is_one_of (id ∷ q) c ≡ is_one_of q' c = λ c. list_any-IsPermutation (same_id c) (id ∷ q) q' perm in
    let at_id : m' id ≡ joined w (m id) = e id ∙ ap (λ b. cond b (joined w (m id)) (m id)) (same_id-itself id) in
    let grown : (c : ObjectId) → HasMarksOf (m c) (m' c) = λ c. rw (e c) (elim (same_id id c) as (λ b. HasMarksOf (m c) (cond b (joined w (m c)) (m c))) [ true ↦ (below-joined w (m c)).0 | false ↦ below-itself (m c) ]) in
    let got : (c : ObjectId) → (m' c ≡ m c) ⊎ ((m' c ≡ joined w (m c)) × IsTrue (is_one_of (id ∷ []) c) × Has h c) =
    λ c. elim (same_id id c) as (λ b. same_id id c ≡ b → m' c ≡ cond b (joined w (m c)) (m c) → (m' c ≡ m c) ⊎ ((m' c ≡ joined w (m c)) × IsTrue (is_one_of (id ∷ []) c) × Has h c)) [
      | false ↦ λ d x. inl x
      | true ↦ λ d x. let is = same_id-true id c d in inr (x, subst (λ z. IsTrue (is_one_of (id ∷ []) z)) is (one_of-head id []), subst (λ z. Has h z) is has)
    ] refl (e c) in
    record {
      more = grown;
      result = λ c. rw (e c) (elim (same_id id c) as (λ b. (cond b (joined w (m c)) (m c)).result ≡ (m c).result) [ true ↦ refl | false ↦ refl ]);
      changed = λ c. elim (got c) as (λ _. (m' c ≡ m c) ⊎ IsTrue (is_one_of q' c)) [
        | inl x ↦ inl x
        | inr y ↦ inr (sym (inside c) ∙ subst (λ z. IsTrue (is_one_of (id ∷ q) z)) (sym (one_of-single id c y.1)) (one_of-head id q))
      ];
      stay = λ c k. sym (inside c) ∙ one_of-tail id q c k;
      from = λ c k. elim (one_of-cons_cases id q c (inside c ∙ k)) as (λ _. IsTrue (is_one_of q c) ⊎ (IsTrue (is_one_of (id ∷ []) c) × Has h c × HasMarksOf w (m' c))) [
        | inr r ↦ inl r
        | inl is ↦ inr (subst (λ z. IsTrue (is_one_of (id ∷ []) z) × Has h z × HasMarksOf w (m' z)) (sym is) (one_of-head id [], has, rw at_id (below-joined w (m id)).1))
      ];
      one = λ c k. elim (got c) as (λ _. IsTrue (m c).one ⊎ (IsTrue w.one × IsTrue (is_one_of (id ∷ []) c) × Has h c)) [
        | inl x ↦ inl (subst (λ z. IsTrue z.one) x k)
        | inr y ↦ elim (or_either w.one (m c).one (subst (λ z. IsTrue z.one) y.0 k)) as (λ _. IsTrue (m c).one ⊎ (IsTrue w.one × IsTrue (is_one_of (id ∷ []) c) × Has h c)) [ inl a ↦ inr (a, y.1, y.2) | inr b ↦ inl b ]
      ];
      two = λ c k. elim (got c) as (λ _. IsTrue (m c).two ⊎ (IsTrue w.two × IsTrue (is_one_of (id ∷ []) c) × Has h c)) [
        | inl x ↦ inl (subst (λ z. IsTrue z.two) x k)
        | inr y ↦ elim (or_either w.two (m c).two (subst (λ z. IsTrue z.two) y.0 k)) as (λ _. IsTrue (m c).two ⊎ (IsTrue w.two × IsTrue (is_one_of (id ∷ []) c) × Has h c)) [ inl a ↦ inr (a, y.1, y.2) | inr b ↦ inl b ]
      ];
      stale = λ c k. elim (got c) as (λ _. IsTrue (m c).stale ⊎ (IsTrue w.stale × IsTrue (is_one_of (id ∷ []) c) × Has h c)) [
        | inl x ↦ inl (subst (λ z. IsTrue z.stale) x k)
        | inr y ↦ elim (or_either w.stale (m c).stale (subst (λ z. IsTrue z.stale) y.0 k)) as (λ _. IsTrue (m c).stale ⊎ (IsTrue w.stale × IsTrue (is_one_of (id ∷ []) c) × Has h c)) [ inl a ↦ inr (a, y.1, y.2) | inr b ↦ inl b ]
      ];
      gets = λ p k has_p. subst (λ z. HasMarksOf w (m' z)) (sym (one_of-single id p k)) (rw at_id (below-joined w (m id)).1);
      spends = λ ids covers.
          let more_here : marks_in (m id) + 1 ≤ marks_in (m' id) = rw at_id (marks_more w (m id) lacking) in
          let t : total ids m + 1 ≤ total ids m' = total_more ids m m' id (λ c. marks_grow (m c) (m' c) (grown c)) more_here (covers id (omega arith)) in
          let l : length q' ≡ length (id ∷ q) = length_permutation (id ∷ q) q' perm in
          omega arith;
    }

pub hands_more : (h : History) (w : MarkSet) (ps rs : List ObjectId) (m m1 m2 : ObjectId → MarkSet) (q q1 q2 : List ObjectId)
    → Hands h w ps m q m1 q1 → Hands h w rs m1 q1 m2 q2 → Hands h w (ps ++ rs) m q m2 q2
hands_more h w ps rs m m1 m2 q q1 q2 a b = record {
  more = λ c. below-trans (m c) (m1 c) (m2 c) (a.more c) (b.more c);
  result = λ c. b.result c ∙ a.result c;
  changed = λ c. elim (b.changed c) as (λ _. (m2 c ≡ m c) ⊎ IsTrue (is_one_of q2 c)) [
    | inr k ↦ inr k
    | inl e ↦ elim (a.changed c) as (λ _. (m2 c ≡ m c) ⊎ IsTrue (is_one_of q2 c)) [ inl d ↦ inl (e ∙ d) | inr k ↦ inr (b.stay c k) ]
  ];
  stay = λ c k. b.stay c (a.stay c k);
  from = λ c k. elim (b.from c k) as (λ _. IsTrue (is_one_of q c) ⊎ (IsTrue (is_one_of (ps ++ rs) c) × Has h c × HasMarksOf w (m2 c))) [
    | inr x ↦ inr (one_of-right ps rs c x.0, x.1, x.2)
    | inl y ↦ elim (a.from c y) as (λ _. IsTrue (is_one_of q c) ⊎ (IsTrue (is_one_of (ps ++ rs) c) × Has h c × HasMarksOf w (m2 c))) [
      | inl z ↦ inl z
      | inr x ↦ inr (one_of-left ps rs c x.0, x.1, below-trans w (m1 c) (m2 c) x.2 (b.more c))
    ]
  ];
  one = λ c k. elim (b.one c k) as (λ _. IsTrue (m c).one ⊎ (IsTrue w.one × IsTrue (is_one_of (ps ++ rs) c) × Has h c)) [
    | inr x ↦ inr (x.0, one_of-right ps rs c x.1, x.2)
    | inl y ↦ elim (a.one c y) as (λ _. IsTrue (m c).one ⊎ (IsTrue w.one × IsTrue (is_one_of (ps ++ rs) c) × Has h c)) [ inl z ↦ inl z | inr x ↦ inr (x.0, one_of-left ps rs c x.1, x.2) ]
  ];
  two = λ c k. elim (b.two c k) as (λ _. IsTrue (m c).two ⊎ (IsTrue w.two × IsTrue (is_one_of (ps ++ rs) c) × Has h c)) [
    | inr x ↦ inr (x.0, one_of-right ps rs c x.1, x.2)
    | inl y ↦ elim (a.two c y) as (λ _. IsTrue (m c).two ⊎ (IsTrue w.two × IsTrue (is_one_of (ps ++ rs) c) × Has h c)) [ inl z ↦ inl z | inr x ↦ inr (x.0, one_of-left ps rs c x.1, x.2) ]
  ];
  stale = λ c k. elim (b.stale c k) as (λ _. IsTrue (m c).stale ⊎ (IsTrue w.stale × IsTrue (is_one_of (ps ++ rs) c) × Has h c)) [
    | inr x ↦ inr (x.0, one_of-right ps rs c x.1, x.2)
    | inl y ↦ elim (a.stale c y) as (λ _. IsTrue (m c).stale ⊎ (IsTrue w.stale × IsTrue (is_one_of (ps ++ rs) c) × Has h c)) [ inl z ↦ inl z | inr x ↦ inr (x.0, one_of-left ps rs c x.1, x.2) ]
  ];
  gets = λ p k has. elim (one_of-cases ps rs p k) as (λ _. HasMarksOf w (m2 p)) [ inl x ↦ below-trans w (m1 p) (m2 p) (a.gets p x has) (b.more p) | inr y ↦ b.gets p y has ];
  spends = λ ids covers.
      let y = b.spends ids covers in
      let x = a.spends ids (λ p k. covers p (let g = marks_grow (m1 p) (m2 p) (b.more p) in omega arith)) in
      omega arith;
}

pub hands_next : (h : History) (w : MarkSet) (ps : List ObjectId) (i : ℕ) (d : ObjectId) (m m1 m2 : ObjectId → MarkSet) (q q1 q2 : List ObjectId) → i < length ps
    → Hands h w (take i ps) m q m1 q1 → Hands h w (get_or ps i d ∷ []) m1 q1 m2 q2 → Hands h w (take (i + 1) ps) m q m2 q2
hands_next h w ps i d m m1 m2 q q1 q2 below a b =
    rw (add-one, take-suc ps i d below) (hands_more h w (take i ps) (get_or ps i d ∷ []) m m1 m2 q q1 q2 a b)

pub one_of-taken : (n : ℕ) (ps : List ObjectId) (q : ObjectId) → IsTrue (is_one_of (take n ps) q) → IsTrue (is_one_of ps q)
one_of-taken zero ps q k = cc
one_of-taken (suc n) [] q k = k
one_of-taken (suc n) (p ∷ ps) q k = elim (one_of-cons_cases p (take n ps) q k) as (λ _. IsTrue (is_one_of (p ∷ ps) q)) [
  | inl is ↦ subst (λ z. IsTrue (is_one_of (p ∷ ps) z)) (sym is) (one_of-head p ps)
  | inr r ↦ one_of-tail p ps q (one_of-taken n ps q r)
]
