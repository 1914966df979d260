-- A walk from two sides, over marks and open ids.
use Rattle.std.proofs.Common.{◌≡◌, ℕ, Bool, true, false, cond, refl, ap, sym, subst, ◌∙◌, List, [], ◌∷◌, ◌++◌, ◌⊎◌, inl, inr, ◌||◌, ◌&&◌, not, IsTrue, ◌≤◌, min, arith, true≢false}
use Rattle.std.proofs.lemmas.List.Sorted.{list_any-IsPermutation}
use Rattle.gix_base.specs.declared.hash.ObjectId.{ObjectId}
use Rattle.gix_revwalk.specs.History.{History, Has, IsEdge, IsAncestor, IsAncestorOfOne, generation_of, entry_at, parents_in, is_one_of, same_id}
use Rattle.gix_revwalk.specs.History.IsAncestor.{itself, further}
use Rattle.gix_revwalk.proofs.Ids.{same_id-true}
use Rattle.gix_revwalk.proofs.Members.{one_of-left, one_of-right, one_of-cases, one_of-head, one_of-tail}
use Rattle.gix_merge_base.specs.Marks.{MarkSet, HasMarksOf, no_marks}
use Rattle.gix_merge_base.specs.Premises.{GenerationsNeverRiseFrom}
use Rattle.gix_merge_base.proofs.Painting.{or_either, or_right}
use Rattle.gix_resolve.specs.ReachSides.{hides, shows, is_first_alone, is_second_alone, Gives, Walked, IsOver, Takes, Sees}
use Rattle.gix_resolve.proofs.ReachGives.{hides-grown}

-- one of two values
pub either : (b : Bool) → (b ≡ true) ⊎ (b ≡ false)
either true = inl refl
either false = inr refl

pub not_one_of : (q : List ObjectId) (c : ObjectId) → ¬ IsTrue (is_one_of q c) → is_one_of q c ≡ false
not_one_of q c out = elim (either (is_one_of q c)) as (λ _. is_one_of q c ≡ false) [ inl k ↦ absurd (out k) | inr k ↦ k ]

-- before anything is marked
pub walked_none : (h : History) (both : Bool) (m : ObjectId → MarkSet) (q : List ObjectId) (bound : ℕ) → ((c : ObjectId) → m c ≡ no_marks) → q ≡ [] → Walked h [] [] both m q bound
walked_none h both m q bound none empty = record {
  one = λ c k. absurd (true≢false (sym k ∙ ap (λ (z : MarkSet). z.one) (none c)));
  two = λ c k. absurd (true≢false (sym k ∙ ap (λ (z : MarkSet). z.two) (none c)));
  fresh = λ c. ap (λ (z : MarkSet). z.stale) (none c);
  from = λ c k. let no : IsTrue false = subst (λ l. IsTrue (is_one_of l c)) empty k in cc;
  begun_one = λ c k has. cc;
  begun_two = λ c k has. cc;
  on_one = λ c p out e k. absurd (true≢false (sym k ∙ ap (λ (z : MarkSet). z.one) (none c)));
  on_two = λ c p out e k. absurd (true≢false (sym k ∙ ap (λ (z : MarkSet). z.two) (none c)));
  least = λ c out k. absurd (none_shown c (ap (shows both) (sym (none c)) ∙ k));
}
  where
    none_shown : (c : ObjectId) → IsTrue (shows both no_marks) → ⊥
    none_shown c = elim both as (λ b. IsTrue (shows b no_marks) → ⊥) [ true ↦ λ k. true≢false (sym k) | false ↦ λ k. true≢false (sym k) ]

and_parts : (a b : Bool) → IsTrue (a && b) → IsTrue a × IsTrue b
and_parts true true k = (refl, refl)
and_parts true false k = cc
and_parts false b k = cc

-- the second side reaches what is hidden
hidden_two : (both : Bool) (m : MarkSet) → IsTrue (hides both m) → IsTrue m.two
hidden_two true m k = (and_parts m.one m.two k).1
hidden_two false m k = k

-- what was given marks has them, or is hidden
gets_one : (both : Bool) (w a : MarkSet) → HasMarksOf w a ⊎ IsTrue (hides both a) → IsTrue w.one → IsTrue a.one ⊎ IsTrue (hides both a)
gets_one both w a (inl g) k = inl (g.one k)
gets_one both w a (inr hid) k = inr hid

gets_two : (both : Bool) (w a : MarkSet) → HasMarksOf w a ⊎ IsTrue (hides both a) → IsTrue w.two → IsTrue a.two
gets_two both w a (inl g) k = g.two k
gets_two both w a (inr hid) k = hidden_two both a hid

one-grown : (both : Bool) (a b : MarkSet) → HasMarksOf a b → IsTrue a.one ⊎ IsTrue (hides both a) → IsTrue b.one ⊎ IsTrue (hides both b)
one-grown both a b g (inl k) = inl (g.one k)
one-grown both a b g (inr hid) = inr (hides-grown both a b g hid)

ancestors-more : (h : History) (xs ys : List ObjectId) (c : ObjectId) → ((o : ObjectId) → IsTrue (is_one_of xs o) → IsTrue (is_one_of ys o)) → IsAncestorOfOne h xs c → IsAncestorOfOne h ys c
ancestors-more h xs ys c more k = (k.0, more k.0 k.1, k.2)

-- the first side begins; w are its marks
pub walked_first : (h : History) (w : MarkSet) (xs : List ObjectId) (both : Bool) (m m' : ObjectId → MarkSet) (q q' : List ObjectId) (bound : ℕ) → w.one ≡ true → w.two ≡ false → w.stale ≡ false
    → Walked h [] [] both m q bound → Gives h both w xs m q m' q' → Walked h xs [] both m' q' bound
walked_first h w xs both m m' q q' bound one two stale at did = record {
  one = λ c k. elim (did.one c k) as (λ _. IsAncestorOfOne h xs c) [ inl a ↦ ancestors-more h [] xs c (λ o j. cc) (at.one c a) | inr b ↦ (c, b.1, itself b.2) ];
  two = λ c k. elim (did.two c k) as (λ _. IsAncestorOfOne h [] c) [ inl a ↦ at.two c a | inr b ↦ absurd (true≢false (sym b.0 ∙ two)) ];
  fresh = λ c. elim (either (m' c).stale) as (λ _. (m' c).stale ≡ false) [
    | inl k ↦ elim (did.stale c k) as (λ _. (m' c).stale ≡ false) [ inl a ↦ absurd (true≢false (sym a ∙ at.fresh c)) | inr b ↦ absurd (true≢false (sym b.0 ∙ stale)) ]
    | inr k ↦ k
  ];
  from = λ c k. elim (did.from c k) as (λ _. IsAncestorOfOne h (xs ++ []) c) [
    | inl a ↦ let up = at.from c a in let no : IsTrue false = up.1 in cc
    | inr b ↦ (c, one_of-left xs [] c b.0, itself b.1)
  ];
  begun_one = λ c k has. gets_one both w (m' c) (did.gets c k has) one;
  begun_two = λ c k has. cc;
  on_one = λ c p out e k. let before = stays c out in one-grown both (m p) (m' p) (did.more p) (at.on_one c p before.0 e (subst (λ z. IsTrue z.one) before.1 k));
  on_two = λ c p out e k. let before = stays c out in (did.more p).two (at.on_two c p before.0 e (subst (λ z. IsTrue z.two) before.1 k));
  least = λ c out k. let before = stays c out in at.least c before.0 (subst (λ z. IsTrue (shows both z)) before.1 k);
}
  where
    stays : (c : ObjectId) → is_one_of q' c ≡ false → (is_one_of q c ≡ false) × (m' c ≡ m c)
    stays c out = (
      not_one_of q c (λ k. true≢false (sym (did.stay c k) ∙ out)),
      elim (did.changed c) as (λ _. m' c ≡ m c) [ inl e ↦ e | inr k ↦ absurd (true≢false (sym k ∙ out)) ],
    )

-- the second side begins
pub walked_second : (h : History) (w : MarkSet) (xs ys : List ObjectId) (both : Bool) (m m' : ObjectId → MarkSet) (q q' : List ObjectId) (bound : ℕ) → w.one ≡ false → w.two ≡ true → w.stale ≡ false
    → Walked h xs [] both m q bound → Gives h both w ys m q m' q' → Walked h xs ys both m' q' bound
walked_second h w xs ys both m m' q q' bound one two stale at did = record {
  one = λ c k. elim (did.one c k) as (λ _. IsAncestorOfOne h xs c) [ inl a ↦ at.one c a | inr b ↦ absurd (true≢false (sym b.0 ∙ one)) ];
  two = λ c k. elim (did.two c k) as (λ _. IsAncestorOfOne h ys c) [ inl a ↦ ancestors-more h [] ys c (λ o j. cc) (at.two c a) | inr b ↦ (c, b.1, itself b.2) ];
  fresh = λ c. elim (either (m' c).stale) as (λ _. (m' c).stale ≡ false) [
    | inl k ↦ elim (did.stale c k) as (λ _. (m' c).stale ≡ false) [ inl a ↦ absurd (true≢false (sym a ∙ at.fresh c)) | inr b ↦ absurd (true≢false (sym b.0 ∙ stale)) ]
    | inr k ↦ k
  ];
  from = λ c k. elim (did.from c k) as (λ _. IsAncestorOfOne h (xs ++ ys) c) [
    | inl a ↦
        let up = at.from c a in (
          up.0,
          elim (one_of-cases xs [] up.0 up.1) as (λ _. IsTrue (is_one_of (xs ++ ys) up.0)) [ inl there ↦ one_of-left xs ys up.0 there | inr none ↦ let no : IsTrue false = none in cc ],
          up.2,
        )
    | inr b ↦ (c, one_of-right xs ys c b.0, itself b.1)
  ];
  begun_one = λ c k has. one-grown both (m c) (m' c) (did.more c) (at.begun_one c k has);
  begun_two = λ c k has. gets_two both w (m' c) (did.gets c k has) two;
  on_one = λ c p out e k. let before = stays c out in one-grown both (m p) (m' p) (did.more p) (at.on_one c p before.0 e (subst (λ z. IsTrue z.one) before.1 k));
  on_two = λ c p out e k. let before = stays c out in (did.more p).two (at.on_two c p before.0 e (subst (λ z. IsTrue z.two) before.1 k));
  least = λ c out k. let before = stays c out in at.least c before.0 (subst (λ z. IsTrue (shows both z)) before.1 k);
}
  where
    stays : (c : ObjectId) → is_one_of q' c ≡ false → (is_one_of q c ≡ false) × (m' c ≡ m c)
    stays c out = (
      not_one_of q c (λ k. true≢false (sym (did.stay c k) ∙ out)),
      elim (did.changed c) as (λ _. m' c ≡ m c) [ inl e ↦ e | inr k ↦ absurd (true≢false (sym k ∙ out)) ],
    )

-- what is shown is not hidden
pub shown-not_hidden : (both : Bool) (m : MarkSet) → IsTrue (shows both m) → hides both m ≡ false
shown-not_hidden true m k = by m.one m.two k
  where
    by : (a b : Bool) → IsTrue (cond a (not b) (true && b)) → (a && b) ≡ false
    by true true k = cc
    by true false k = refl
    by false b k = refl
shown-not_hidden false m k = by m.one m.two k
  where
    by : (a b : Bool) → IsTrue (cond a (not b) (false && b)) → b ≡ false
    by true true k = cc
    by true false k = refl
    by false b k = cc

-- an open commit hands its marks w on
module _ (h : History) (xs ys : List ObjectId) (both : Bool) (m m1 m' : ObjectId → MarkSet) (id : ObjectId) (q q1 q' : List ObjectId) (bound next : ℕ)
    (at : Walked h xs ys both m q bound) (took : Takes h both id m q bound q1 next) (same : (c : ObjectId) → m1 c ≡ m c) (did : Gives h both (m1 id) (parents_in (entry_at h id)) m1 q1 m' q') where
  inside : (c : ObjectId) → is_one_of q c ≡ is_one_of (id ∷ q1) c
  inside c = list_any-IsPermutation (same_id c) q (id ∷ q1) took.queue

  grew : (c : ObjectId) → HasMarksOf (m c) (m' c)
  grew c = subst (λ z. HasMarksOf z (m' c)) (same c) (did.more c)

  -- what is not open now was not open, or is the one that left
  before : (c : ObjectId) → is_one_of q' c ≡ false → (m' c ≡ m c) × ((c ≡ id) ⊎ (is_one_of q c ≡ false))
  before c out = (
    elim (did.changed c) as (λ _. m' c ≡ m c) [ inl e ↦ e ∙ same c | inr k ↦ absurd (true≢false (sym k ∙ out)) ],
    elim (either (same_id c id)) as (λ _. (c ≡ id) ⊎ (is_one_of q c ≡ false)) [
      | inl e ↦ inl (same_id-true c id e)
      | inr apart ↦ inr (inside c ∙ ap (λ b. b || is_one_of q1 c) apart ∙ not_one_of q1 c (λ k. true≢false (sym (did.stay c k) ∙ out)))
    ],
  )

  gets : (p : ObjectId) → IsEdge h id p → HasMarksOf (m id) (m' p) ⊎ IsTrue (hides both (m' p))
  gets p e = subst (λ z. HasMarksOf z (m' p) ⊎ IsTrue (hides both (m' p))) (same id) (did.gets p e.0 e.1)

  lower : next ≤ bound
  lower = subst (λ n. n ≤ bound) (sym took.least) (elim (hides both (m id)) as (λ b. cond b bound (min bound (generation_of h id)) ≤ bound) [ true ↦ omega arith | false ↦ omega arith ])

  pub walked_next : Walked h xs ys both m' q' next
  walked_next = record {
    one = λ c k. elim (did.one c k) as (λ _. IsAncestorOfOne h xs c) [
      | inl a ↦ at.one c (subst (λ z. IsTrue z.one) (same c) a)
      | inr b ↦ let up = at.one id (subst (λ z. IsTrue z.one) (same id) b.0) in (up.0, up.1, further id c up.2 (b.1, b.2))
    ];
    two = λ c k. elim (did.two c k) as (λ _. IsAncestorOfOne h ys c) [
      | inl a ↦ at.two c (subst (λ z. IsTrue z.two) (same c) a)
      | inr b ↦ let up = at.two id (subst (λ z. IsTrue z.two) (same id) b.0) in (up.0, up.1, further id c up.2 (b.1, b.2))
    ];
    fresh = λ c. elim (either (m' c).stale) as (λ _. (m' c).stale ≡ false) [
      | inl k ↦ elim (did.stale c k) as (λ _. (m' c).stale ≡ false) [
        | inl a ↦ absurd (true≢false (sym a ∙ ap (λ (z : MarkSet). z.stale) (same c) ∙ at.fresh c))
        | inr b ↦ absurd (true≢false (sym b.0 ∙ ap (λ (z : MarkSet). z.stale) (same id) ∙ at.fresh id))
      ]
      | inr k ↦ k
    ];
    from = λ c k. elim (did.from c k) as (λ _. IsAncestorOfOne h (xs ++ ys) c) [
      | inl a ↦ at.from c (inside c ∙ one_of-tail id q1 c a)
      | inr b ↦ let up = at.from id (inside id ∙ one_of-head id q1) in (up.0, up.1, further id c up.2 (b.0, b.1))
    ];
    begun_one = λ c k has. one-grown both (m c) (m' c) (grew c) (at.begun_one c k has);
    begun_two = λ c k has. (grew c).two (at.begun_two c k has);
    on_one = λ c p out e k.
        let was = before c out in
        let had = subst (λ z. IsTrue z.one) was.0 k in
        elim was.1 as (λ _. IsTrue (m' p).one ⊎ IsTrue (hides both (m' p))) [
          | inl is ↦ gets_one both (m id) (m' p) (gets p (subst (λ z. IsEdge h z p) is e)) (subst (λ z. IsTrue (m z).one) is had)
          | inr closed ↦ one-grown both (m p) (m' p) (grew p) (at.on_one c p closed e had)
        ];
    on_two = λ c p out e k.
        let was = before c out in
        let had = subst (λ z. IsTrue z.two) was.0 k in
        elim was.1 as (λ _. IsTrue (m' p).two) [
          | inl is ↦ gets_two both (m id) (m' p) (gets p (subst (λ z. IsEdge h z p) is e)) (subst (λ z. IsTrue (m z).two) is had)
          | inr closed ↦ (grew p).two (at.on_two c p closed e had)
        ];
    least = λ c out k.
        let was = before c out in
        let had = subst (λ z. IsTrue (shows both z)) was.0 k in
        elim was.1 as (λ _. next ≤ generation_of h c) [
          | inl is ↦
              let here = subst (λ z. IsTrue (shows both (m z))) is had in
              let n : next ≡ min bound (generation_of h id) = took.least ∙ ap (λ b. cond b bound (min bound (generation_of h id))) (shown-not_hidden both (m id) here) in
              let g : generation_of h c ≡ generation_of h id = ap (generation_of h) is in
              omega arith
          | inr closed ↦ let l = at.least c closed had in let k2 = lower in omega arith
        ];
  }

-- at the end
ancestors-go_on : (h : History) (a b c : ObjectId) → IsAncestor h a b → IsAncestor h b c → IsAncestor h a c
ancestors-go_on h a b c p (itself has) = p
ancestors-go_on h a b c p (further d c' r e) = further d c (ancestors-go_on h a b d p r) e

generations-fall : (h : History) (starts : List ObjectId) → GenerationsNeverRiseFrom h starts → (a c : ObjectId) → IsAncestorOfOne h starts a → IsAncestor h a c → generation_of h c ≤ generation_of h a
generations-fall h starts never a c up (itself has) = omega arith
generations-fall h starts never a c up (further b c' p e) =
    let i = generations-fall h starts never a b up p in
    let s = never b c (up.0, up.1, ancestors-go_on h up.0 a b up.2 p) e in
    omega arith

ancestor-has : (h : History) (a c : ObjectId) → IsAncestor h a c → Has h c
ancestor-has h a c (itself has) = has
ancestor-has h a c (further b c' p e) = e.1

start-has : (h : History) (a c : ObjectId) → IsAncestor h a c → Has h a
start-has h a c (itself has) = has
start-has h a c (further b c' p e) = start-has h a b p

-- an ancestor has the mark of its side, or is an ancestor of an open commit that has it
module _ (h : History) (mark : ObjectId → Bool) (q : List ObjectId) (on : (c p : ObjectId) → is_one_of q c ≡ false → IsEdge h c p → IsTrue (mark c) → IsTrue (mark p)) where
  abbrev Reached : ObjectId → Type 0
  Reached c = IsTrue (mark c) ⊎ ((y : ObjectId) × IsTrue (is_one_of q y) × IsTrue (mark y) × IsAncestor h y c)

  reach : (o : ObjectId) → IsTrue (mark o) → (c : ObjectId) → IsAncestor h o c → Reached c
  reach o k c (itself has) = inl k
  reach o k c (further b c' p e) =
      elim (reach o k b p) as (λ _. Reached c) [
        | inl had ↦ elim (either (is_one_of q b)) as (λ _. Reached c) [
          | inl there ↦ inr (b, there, had, further b c (itself (ancestor-has h o b p)) e)
          | inr closed ↦ inl (on b c closed e had)
        ]
        | inr y ↦ inr (y.0, y.1, y.2, further b c y.3 e)
      ]

and_joined : (a b : Bool) → IsTrue a → b ≡ false → IsTrue (a && not b)
and_joined true false k n = refl
and_joined true true k n = cc
and_joined false b k n = cc

alone_parts : (a b : Bool) → IsTrue (a && not b) → IsTrue a × (b ≡ false)
alone_parts true false k = (refl, refl)
alone_parts true true k = cc
alone_parts false b k = cc

first_shown : (both a b : Bool) → IsTrue (a && not b) → IsTrue (cond a (not b) (both && b))
first_shown both true b k = k
first_shown both false b k = cc

second_shown : (both a b : Bool) → IsTrue both → IsTrue (b && not a) → IsTrue (cond a (not b) (both && b))
second_shown both true true t k = cc
second_shown both true false t k = cc
second_shown true false b t k = (and_parts b true k).0
second_shown false false b t k = cc

one_first : (both : Bool) (m : MarkSet) → IsTrue both → IsTrue m.one ⊎ IsTrue (hides both m) → IsTrue m.one
one_first both m t (inl k) = k
one_first true m t (inr k) = (and_parts m.one m.two k).0
one_first false m t (inr k) = cc

-- a mark of either side
abbrev marked : MarkSet → Bool
marked m = m.one || m.two

marked_two : (m : MarkSet) → IsTrue m.two → IsTrue (marked m)
marked_two m k = or_right m.one m.two k

marked_one : (both : Bool) (m : MarkSet) → IsTrue m.one ⊎ IsTrue (hides both m) → IsTrue (marked m)
marked_one both m (inl k) = or_left m.one m.two k
  where
    or_left : (a b : Bool) → IsTrue a → IsTrue (a || b)
    or_left true b h = refl
    or_left false b h = cc
marked_one both m (inr hid) = marked_two m (hidden_two both m hid)

-- at the end of the walk
module _ (h : History) (xs ys : List ObjectId) (both : Bool) (m : ObjectId → MarkSet) (q : List ObjectId) (bound : ℕ) (at : Walked h xs ys both m q bound) (over : IsOver h both m q bound) where
  -- a mark of either side is handed on as one
  on_marked : (c p : ObjectId) → is_one_of q c ≡ false → IsEdge h c p → IsTrue (marked (m c)) → IsTrue (marked (m p))
  on_marked c p out e k = elim (or_either (m c).one (m c).two k) as (λ _. IsTrue (marked (m p))) [
    | inl a ↦ marked_one both (m p) (at.on_one c p out e a)
    | inr b ↦ marked_two (m p) (at.on_two c p out e b)
  ]

  from_either : (c : ObjectId) → IsAncestorOfOne h xs c → Reached h (λ x. marked (m x)) q on_marked c
  from_either c k = reach h (λ x. marked (m x)) q on_marked k.0 (marked_one both (m k.0) (at.begun_one k.0 k.1 (start-has h k.0 c k.2))) c k.2

  from_second : (c : ObjectId) → IsAncestorOfOne h ys c → Reached h (λ x. (m x).two) q at.on_two c
  from_second c k = reach h (λ x. (m x).two) q at.on_two k.0 (at.begun_two k.0 k.1 (start-has h k.0 c k.2)) c k.2

  below : (zs : List ObjectId) (y c : ObjectId) → IsAncestorOfOne h zs y → IsAncestor h y c → IsAncestorOfOne h zs c
  below zs y c k p = (k.0, k.1, ancestors-go_on h k.0 y c k.2 p)

  -- if both sides are wanted, a hidden commit has the first mark, too
  module _ (t : IsTrue both) where
    on_first : (c p : ObjectId) → is_one_of q c ≡ false → IsEdge h c p → IsTrue (m c).one → IsTrue (m p).one
    on_first c p out e k = one_first both (m p) t (at.on_one c p out e k)

    from_first : (c : ObjectId) → IsAncestorOfOne h xs c → Reached h (λ x. (m x).one) q on_first c
    from_first c k = reach h (λ x. (m x).one) q on_first k.0 (one_first both (m k.0) t (at.begun_one k.0 k.1 (start-has h k.0 c k.2))) c k.2

  -- a wanted commit is not open, so it was taken, and no open commit is its descendant
  none_above : GenerationsNeverRiseFrom h (xs ++ ys) → (c y : ObjectId) → IsTrue (shows both (m c)) → IsTrue (is_one_of q y) → IsAncestor h y c → ⊥
  none_above never c y shown there p =
      let closed : is_one_of q c ≡ false = not_one_of q c (λ k. true≢false (sym (over c k).0 ∙ shown-not_hidden both (m c) shown)) in
      let l = at.least c closed shown in
      let g = generations-fall h (xs ++ ys) never y c (at.from y there) p in
      let lt = (over y there).1 in
      absurd (omega arith)

  pub sees : Sees h xs ys both m
  sees = record {
    one = at.one;
    two = at.two;
    first = λ c k. elim (from_either c k.0) as (λ _. IsTrue (is_first_alone (m c))) [
      | inl had ↦ elim (or_either (m c).one (m c).two had) as (λ _. IsTrue (is_first_alone (m c))) [
        | inl one ↦ and_joined (m c).one (m c).two one (no_mark (m c).two (λ t. k.1 (at.two c t)))
        | inr two ↦ absurd (k.1 (at.two c two))
      ]
      | inr y ↦ absurd (k.1 (below ys y.0 c (at.two y.0 (hidden_two both (m y.0) (over y.0 y.1).0)) y.3))
    ];
    second = λ t c k. elim (from_second c k.0) as (λ _. IsTrue (is_second_alone (m c))) [
      | inl had ↦ and_joined (m c).two (m c).one had (no_mark (m c).one (λ j. k.1 (at.one c j)))
      | inr y ↦ absurd (k.1 (below xs y.0 c (at.one y.0 (one_first both (m y.0) t (inr (over y.0 y.1).0))) y.3))
    ];
    no_second = λ never c alone k. elim (from_second c k) as (λ _. ⊥) [
      | inl had ↦ true≢false (sym had ∙ (alone_parts (m c).one (m c).two alone).1)
      | inr y ↦ none_above never c y.0 (first_shown both (m c).one (m c).two alone) y.1 y.3
    ];
    no_first = λ never t c alone k. elim (from_first t c k) as (λ _. ⊥) [
      | inl had ↦ true≢false (sym had ∙ (alone_parts (m c).two (m c).one alone).1)
      | inr y ↦ none_above never c y.0 (second_shown both (m c).one (m c).two t alone) y.1 y.3
    ];
  }
    where
      no_mark : (b : Bool) → ¬ IsTrue b → b ≡ false
      no_mark false k = refl
      no_mark true k = absurd (k refl)
