-- Hands marks to commits that may be open. Hidden commits need none.
use Rattle.std.proofs.Common.{◌≡◌, ℕ, Bool, true, false, cond, refl, ap, sym, subst, ◌∙◌, List, [], ◌∷◌, ◌++◌, ◌⊎◌, inl, inr, IsTrue, ◌+◌, ◌≤◌, ◌<◌, length, arith, take, get_or, add-one, is_some}
use Rattle.std.specs.List.{filter}
use Rattle.std.proofs.Math.Seq.{take-suc}
use Rattle.std.proofs.lemmas.List.{length-map}
use Rattle.gix_base.specs.declared.hash.ObjectId.{ObjectId}
use Rattle.gix_revwalk.specs.History.{History, Has, entry_at, is_one_of, same_id}
use Rattle.gix_revwalk.specs.Graph.{Graphed, held_ids}
use Rattle.gix_revwalk.specs.Number.{place_in}
use Rattle.gix_revwalk.specs.declared.numbers.Number.{Number}
use Rattle.gix_revwalk.proofs.Ids.{same_id-true, same_id-itself}
use Rattle.gix_revwalk.proofs.Members.{one_of-left, one_of-right, one_of-cases, one_of-head, one_of-tail, one_of-cons_cases, one_of-single}
use Rattle.gix_merge_base.specs.Marks.{MarkSet, HasMarksOf, joined, has_marks, marks_in}
use Rattle.gix_merge_base.specs.PaintSteps.{total}
use Rattle.gix_merge_base.proofs.Painting.{below-itself, below-trans, or_either, and_both, and_pair}
use Rattle.gix_merge_base.proofs.Handing.{below-joined, marks_grow, marks_more, total_no_less, total_more}
use Rattle.gix_merge_base.specs.PaintQueue.{id_at, ids_at}
use Rattle.gix_merge_base.proofs.Known.{one_of-filter, filter-one_of}
use Rattle.gix_merge_base.proofs.Numbered.{id-of-item}
use Rattle.gix_resolve.specs.ReachSides.{hides, Gives}
use Rattle.gix_resolve.specs.ReachWalk.{Enters}

-- what is hidden stays so
pub hides-grown : (both : Bool) (a b : MarkSet) → HasMarksOf a b → IsTrue (hides both a) → IsTrue (hides both b)
hides-grown true a b g k = let p = and_both a.one a.two k in and_pair b.one b.two (g.one p.0) (g.two p.1)
hides-grown false a b g k = g.two k

-- nothing changes if each commit has the marks or is hidden
pub gives_none : (h : History) (both : Bool) (w : MarkSet) (m m' : ObjectId → MarkSet) (q q' : List ObjectId) → ((c : ObjectId) → m' c ≡ m c) → q' ≡ q → (ps : List ObjectId)
    → ((p : ObjectId) → IsTrue (is_one_of ps p) → Has h p → HasMarksOf w (m p) ⊎ IsTrue (hides both (m p))) → Gives h both w ps m q m' q'
gives_none h both w m m' q q' e d ps has = record {
  more = λ c. rw (e c) (below-itself (m c));
  changed = λ c. inl (e c);
  stay = λ c k. rw d k;
  from = λ c k. inl (subst (λ l. IsTrue (is_one_of l c)) d k);
  one = λ c k. inl (subst (λ z. IsTrue z.one) (e c) k);
  two = λ c k. inl (subst (λ z. IsTrue z.two) (e c) k);
  stale = λ c k. inl (subst (λ z. IsTrue z.stale) (e c) k);
  gets = λ p k has_p. rw (e p) (has p k has_p);
  spends = λ ids covers. let t : total ids m ≤ total ids m' = total_no_less ids m m' (λ c. rw (e c) (omega arith)) in rw d (omega arith);
}

-- the marks go to id, which is open now
pub gives_entered : (h : History) (both : Bool) (w : MarkSet) (id : ObjectId) (m m' : ObjectId → MarkSet) (q q' : List ObjectId) → Has h id → has_marks (m id) w ≡ false → Enters w id m q m' q' → Gives h both w (id ∷ []) m q m' q'
gives_entered h both w id m m' q q' has lacking entered =
    let e = entered.marks in
    let at_id : m' id ≡ joined w (m id) = e id ∙ ap (λ b. cond b (joined w (m id)) (m id)) (same_id-itself id) in
    let grown : (c : ObjectId) → HasMarksOf (m c) (m' c) = λ c. rw (e c) (elim (same_id id c) as (λ b. HasMarksOf (m c) (cond b (joined w (m c)) (m c))) [ true ↦ (below-joined w (m c)).0 | false ↦ below-itself (m c) ]) in
    let got : (c : ObjectId) → (m' c ≡ m c) ⊎ ((m' c ≡ joined w (m c)) × IsTrue (is_one_of (id ∷ []) c) × Has h c) =
    λ c. elim (same_id id c) as (λ b. same_id id c ≡ b → m' c ≡ cond b (joined w (m c)) (m c) → (m' c ≡ m c) ⊎ ((m' c ≡ joined w (m c)) × IsTrue (is_one_of (id ∷ []) c) × Has h c)) [
      | false ↦ λ d x. inl x
      | true ↦ λ d x. let is = same_id-true id c d in inr (x, subst (λ z. IsTrue (is_one_of (id ∷ []) z)) is (one_of-head id []), subst (λ z. Has h z) is has)
    ] refl (e c) in
    record {
      more = grown;
      changed = λ c. elim (got c) as (λ _. (m' c ≡ m c) ⊎ IsTrue (is_one_of q' c)) [
        | inl x ↦ inl x
        | inr y ↦ inr (entered.inside c ∙ subst (λ z. IsTrue (is_one_of (id ∷ q) z)) (sym (one_of-single id c y.1)) (one_of-head id q))
      ];
      stay = λ c k. entered.inside c ∙ one_of-tail id q c k;
      from = λ c k. elim (one_of-cons_cases id q c (sym (entered.inside c) ∙ k)) as (λ _. IsTrue (is_one_of q c) ⊎ (IsTrue (is_one_of (id ∷ []) c) × Has h c)) [
        | inl new ↦ inr (subst (λ z. IsTrue (is_one_of (id ∷ []) z)) (sym new) (one_of-head id []), subst (λ z. Has h z) (sym new) has)
        | inr old ↦ inl old
      ];
      one = λ c k. elim (got c) as (λ _. IsTrue (m c).one ⊎ (IsTrue w.one × IsTrue (is_one_of (id ∷ []) c) × Has h c)) [
        | inl x ↦ inl (subst (λ z. IsTrue z.one) x k)
        | inr y ↦ elim (or_either w.one (m c).one (subst (λ z. IsTrue z.one) y.0 k)) as (λ _. IsTrue (m c).one ⊎ (IsTrue w.one × IsTrue (is_one_of (id ∷ []) c) × Has h c)) [ inl a ↦ inr (a, y.1, y.2) | inr b ↦ inl b ]
      ];
      two = λ c k. elim (got c) as (λ _. IsTrue (m c).two ⊎ (IsTrue w.two × IsTrue (is_one_of (id ∷ []) c) × Has h c)) [
        | inl x ↦ inl (subst (λ z. IsTrue z.two) x k)
        | inr y ↦ elim (or_either w.two (m c).two (subst (λ z. IsTrue z.two) y.0 k)) as (λ _. IsTrue (m c).two ⊎ (IsTrue w.two × IsTrue (is_one_of (id ∷ []) c) × Has h c)) [ inl a ↦ inr (a, y.1, y.2) | inr b ↦ inl b ]
      ];
      stale = λ c k. elim (got c) as (λ _. IsTrue (m c).stale ⊎ (IsTrue w.stale × IsTrue (is_one_of (id ∷ []) c) × Has h c)) [
        | inl x ↦ inl (subst (λ z. IsTrue z.stale) x k)
        | inr y ↦ elim (or_either w.stale (m c).stale (subst (λ z. IsTrue z.stale) y.0 k)) as (λ _. IsTrue (m c).stale ⊎ (IsTrue w.stale × IsTrue (is_one_of (id ∷ []) c) × Has h c)) [ inl a ↦ inr (a, y.1, y.2) | inr b ↦ inl b ]
      ];
      gets = λ p k has_p. inl (subst (λ z. HasMarksOf w (m' z)) (sym (one_of-single id p k)) (rw at_id (below-joined w (m id)).1));
      spends = λ ids covers.
          let more_here : marks_in (m id) + 1 ≤ marks_in (m' id) = rw at_id (marks_more w (m id) lacking) in
          let t : total ids m + 1 ≤ total ids m' = total_more ids m m' id (λ c. marks_grow (m c) (m' c) (grown c)) more_here (covers id (omega arith)) in
          let l = entered.len in
          omega arith;
    }

-- to some, then to others
pub gives_more : (h : History) (both : Bool) (w : MarkSet) (ps rs : List ObjectId) (m m1 m2 : ObjectId → MarkSet) (q q1 q2 : List ObjectId)
    → Gives h both w ps m q m1 q1 → Gives h both w rs m1 q1 m2 q2 → Gives h both w (ps ++ rs) m q m2 q2
gives_more h both w ps rs m m1 m2 q q1 q2 a b = record {
  more = λ c. below-trans (m c) (m1 c) (m2 c) (a.more c) (b.more c);
  changed = λ c. elim (b.changed c) as (λ _. (m2 c ≡ m c) ⊎ IsTrue (is_one_of q2 c)) [
    | inr k ↦ inr k
    | inl e ↦ elim (a.changed c) as (λ _. (m2 c ≡ m c) ⊎ IsTrue (is_one_of q2 c)) [ inl d ↦ inl (e ∙ d) | inr k ↦ inr (b.stay c k) ]
  ];
  stay = λ c k. b.stay c (a.stay c k);
  from = λ c k. elim (b.from c k) as (λ _. IsTrue (is_one_of q c) ⊎ (IsTrue (is_one_of (ps ++ rs) c) × Has h c)) [
    | inr x ↦ inr (one_of-right ps rs c x.0, x.1)
    | inl y ↦ elim (a.from c y) as (λ _. IsTrue (is_one_of q c) ⊎ (IsTrue (is_one_of (ps ++ rs) c) × Has h c)) [ inl z ↦ inl z | inr x ↦ inr (one_of-left ps rs c x.0, x.1) ]
  ];
  one = λ c k. elim (b.one c k) as (λ _. IsTrue (m c).one ⊎ (IsTrue w.one × IsTrue (is_one_of (ps ++ rs) c) × Has h c)) [
    | inr x ↦ inr (x.0, one_of-right ps rs c x.1, x.2)
    | inl y ↦ elim (a.one c y) as (λ _. IsTrue (m c).one ⊎ (IsTrue w.one × IsTrue (is_one_of (ps ++ rs) c) × Has h c)) [ inl z ↦ inl z | inr x ↦ inr (x.0, one_of-left ps rs c x.1, x.2) ]
  ];
  two = λ c k. elim (b.two c k) as (λ _. IsTrue (m c).two ⊎ (IsTrue w.two × IsTrue (is_one_of (ps ++ rs) c) × Has h c)) [
    | inr x ↦ inr (x.0, one_of-right ps rs c x.1, x.2)
    | inl y ↦ elim (a.two c y) as (λ _. IsTrue (m c).two ⊎ (IsTrue w.two × IsTrue (is_one_of (ps ++ rs) c) × Has h c)) [ inl z ↦ inl z | inr x ↦ inr (x.0, one_of-left ps rs c x.1, x.2) ]
  ];
  stale = λ c k. elim (b.stale c k) as (λ _. IsTrue (m c).stale ⊎ (IsTrue w.stale × IsTrue (is_one_of (ps ++ rs) c) × Has h c)) [
    | inr x ↦ inr (x.0, one_of-right ps rs c x.1, x.2)
    | inl y ↦ elim (a.stale c y) as (λ _. IsTrue (m c).stale ⊎ (IsTrue w.stale × IsTrue (is_one_of (ps ++ rs) c) × Has h c)) [ inl z ↦ inl z | inr x ↦ inr (x.0, one_of-left ps rs c x.1, x.2) ]
  ];
  gets = λ p k has. elim (one_of-cases ps rs p k) as (λ _. HasMarksOf w (m2 p) ⊎ IsTrue (hides both (m2 p))) [
    | inr y ↦ b.gets p y has
    | inl x ↦ elim (a.gets p x has) as (λ _. HasMarksOf w (m2 p) ⊎ IsTrue (hides both (m2 p))) [
      | inl got ↦ inl (below-trans w (m1 p) (m2 p) got (b.more p))
      | inr hid ↦ inr (hides-grown both (m1 p) (m2 p) (b.more p) hid)
    ]
  ];
  spends = λ ids covers.
      let y = b.spends ids covers in
      let x = a.spends ids (λ p k. covers p (let g = marks_grow (m1 p) (m2 p) (b.more p) in omega arith)) in
      omega arith;
}

pub gives_next : (h : History) (both : Bool) (w : MarkSet) (ps : List ObjectId) (i : ℕ) (d : ObjectId) (m m1 m2 : ObjectId → MarkSet) (q q1 q2 : List ObjectId) → i < length ps
    → Gives h both w (take i ps) m q m1 q1 → Gives h both w (get_or ps i d ∷ []) m1 q1 m2 q2 → Gives h both w (take (i + 1) ps) m q m2 q2
gives_next h both w ps i d m m1 m2 q q1 q2 below a b =
    rw (add-one, take-suc ps i d below) (gives_more h both w (take i ps) (get_or ps i d ∷ []) m m1 m2 q q1 q2 a b)

-- to the next of the commits with the numbers ns
pub gives-step : {S T : Type 0} (h : History) (both : Bool) (w : MarkSet) (g0 g1 : Graphed S T) → held_ids g1 ≡ held_ids g0 → (ns : List Number) (i : ℕ) (d : Number) → i < length ns → (m m1 m2 : ObjectId → MarkSet) (q q1 q2 : List ObjectId)
    → Gives h both w (take i (ids_at g0 ns)) m q m1 q1 → Gives h both w (id_at g1 (place_in (get_or ns i d)) ∷ []) m1 q1 m2 q2 → Gives h both w (take (i + 1) (ids_at g0 ns)) m q m2 q2
gives-step h both w g0 g1 e ns i d lt m m1 m2 q q1 q2 old new =
    let len = length-map ns (λ (k : Number). id_at g0 (place_in k)) in
    gives_next h both w (ids_at g0 ns) i (id_at g0 (place_in d)) m m1 m2 q q1 q2 (omega arith) old (subst (λ z. Gives h both w (z ∷ []) m1 q1 m2 q2) (id-of-item g0 g1 e ns i d lt) new)

-- those that the history has are all that matter
pub gives_known : (h : History) (both : Bool) (w : MarkSet) (ps : List ObjectId) (m m' : ObjectId → MarkSet) (q q' : List ObjectId) → Gives h both w (filter (λ p. is_some (entry_at h p)) ps) m q m' q' → Gives h both w ps m q m' q'
gives_known h both w ps m m' q q' k = record {
  more = k.more;
  changed = k.changed;
  stay = k.stay;
  from = λ c x. elim (k.from c x) as (λ _. IsTrue (is_one_of q c) ⊎ (IsTrue (is_one_of ps c) × Has h c)) [ inl y ↦ inl y | inr y ↦ inr ((one_of-filter _ ps c y.0).0, y.1) ];
  one = λ c x. elim (k.one c x) as (λ _. IsTrue (m c).one ⊎ (IsTrue w.one × IsTrue (is_one_of ps c) × Has h c)) [ inl y ↦ inl y | inr y ↦ inr (y.0, (one_of-filter _ ps c y.1).0, y.2) ];
  two = λ c x. elim (k.two c x) as (λ _. IsTrue (m c).two ⊎ (IsTrue w.two × IsTrue (is_one_of ps c) × Has h c)) [ inl y ↦ inl y | inr y ↦ inr (y.0, (one_of-filter _ ps c y.1).0, y.2) ];
  stale = λ c x. elim (k.stale c x) as (λ _. IsTrue (m c).stale ⊎ (IsTrue w.stale × IsTrue (is_one_of ps c) × Has h c)) [ inl y ↦ inl y | inr y ↦ inr (y.0, (one_of-filter _ ps c y.1).0, y.2) ];
  gets = λ p x has. k.gets p (filter-one_of (λ p. is_some (entry_at h p)) ps p x has) has;
  spends = k.spends;
}

-- the same marks at first
pub gives_first : (h : History) (both : Bool) (w : MarkSet) (ps : List ObjectId) (m m1 m2 : ObjectId → MarkSet) (q q1 q2 : List ObjectId) → ((c : ObjectId) → m1 c ≡ m c) → q1 ≡ q → Gives h both w ps m1 q1 m2 q2 → Gives h both w ps m q m2 q2
gives_first h both w ps m m1 m2 q q1 q2 e d k = gives_more h both w [] ps m m1 m2 q q1 q2 (gives_none h both w m m1 q q1 e d [] (λ p x has. cc)) k

module _ {h : History} {w : MarkSet} {ps : List ObjectId} {m m' : ObjectId → MarkSet} {q q' : List ObjectId} where
  pub gives_as : {a b : Bool} → a ≡ b → Gives h a w ps m q m' q' → Gives h b w ps m q m' q'
  gives_as e k = subst (λ z. Gives h z w ps m q m' q') e k
