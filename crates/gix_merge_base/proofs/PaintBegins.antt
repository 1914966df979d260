-- Before the first pop.
use Rattle.std.proofs.Common.{◌≡◌, ℕ, Bool, true, false, cond, refl, ap, sym, subst, ◌∙◌, List, [], ◌∷◌, ◌++◌, ◌⊎◌, inl, inr, ◌||◌, ◌&&◌, IsTrue, is_some, ◌+◌, ◌≤◌, ◌<◌, length, arith, take, get_or, add-one}
use Rattle.std.specs.List.{IsDistinct, list_any}
use Rattle.std.specs.List.Sorted.{IsPermutation}
use Rattle.std.proofs.lemmas.List.Sorted.{list_any-IsPermutation, length_permutation}
use Rattle.std.proofs.lemmas.List.Folds.{list_any-append}
use Rattle.std.proofs.lemmas.List.{length_push}
use Rattle.std.proofs.Math.Seq.{take-suc}
use Rattle.gix_base.specs.declared.hash.ObjectId.{ObjectId}
use Rattle.gix_revwalk.specs.History.{History, entry_at, Has, IsAncestor, is_one_of, same_id}
use Rattle.gix_revwalk.specs.History.IsAncestor.{itself}
use Rattle.gix_merge_base.specs.Painting.{IsHandedIn, IsOutside, MayBeMet, MayBeTaken}
use Rattle.gix_merge_base.specs.Marks.{MarkSet, joined, no_marks}
use Rattle.gix_merge_base.specs.PaintSteps.{Begins, Begun}
use Rattle.gix_revwalk.proofs.Ids.{same_id-true, same_id-itself, same_id-equal}
use Rattle.gix_revwalk.proofs.Members.{one_of-cons_cases, one_of-left, one_of-right}
use Rattle.gix_merge_base.proofs.Handing.{one_of-taken}
use Rattle.gix_merge_base.proofs.Painting.{Handed, or_either, and_both, and_pair}
use Rattle.gix_merge_base.proofs.PaintWalk.{IsWalk}
use Rattle.gix_merge_base.specs.Counting.{Counts}
use Rattle.std.proofs.Math.Path.{fun_ext}

same_id-sym : (a b : ObjectId) → same_id a b ≡ same_id b a
same_id-sym a b =
    elim (same_id a b) as (λ x. same_id a b ≡ x → x ≡ same_id b a) [
      | true ↦ λ e. sym (same_id-equal b a (sym (same_id-true a b e)))
      | false ↦ λ e. elim (same_id b a) as (λ y. same_id b a ≡ y → false ≡ y) [
        | false ↦ λ d. refl
        | true ↦ λ d. let t = same_id-equal a b (sym (same_id-true b a d)) in cc
      ] refl
    ] refl

inside_after : (h : History) (w : MarkSet) (id : ObjectId) (m m' : ObjectId → MarkSet) (q q' : List ObjectId) → Begins h w id m q m' q' → (c : ObjectId)
    → is_one_of q' c ≡ ((same_id id c && is_some (entry_at h id)) || is_one_of q c)
inside_after h w id m m' q q' b c =
    sym (list_any-IsPermutation (same_id c) _ q' b.queue) ∙ elim (is_some (entry_at h id)) as (λ s. list_any (same_id c) (cond s (id ∷ q) q) ≡ ((same_id id c && s) || is_one_of q c)) [
      | true ↦ rw (same_id-sym c id) (elim (same_id id c) as (λ s. (s || is_one_of q c) ≡ ((s && true) || is_one_of q c)) [ true ↦ refl | false ↦ refl ])
      | false ↦ elim (same_id id c) as (λ s. is_one_of q c ≡ ((s && false) || is_one_of q c)) [ true ↦ refl | false ↦ refl ]
    ]

len_after : (h : History) (w : MarkSet) (id : ObjectId) (m m' : ObjectId → MarkSet) (q q' : List ObjectId) → Begins h w id m q m' q' → length q' ≤ 1 + length q
len_after h w id m m' q q' b =
    let e = length_permutation _ q' b.queue in
    let k : length (cond (is_some (entry_at h id)) (id ∷ q) q) ≤ 1 + length q = elim (is_some (entry_at h id)) as (λ s. length (cond s (id ∷ q) q) ≤ 1 + length q) [ true ↦ omega arith | false ↦ omega arith ] in
    omega arith

pub begun_first : (h : History) (f : ObjectId) (w : MarkSet) (m m' : ObjectId → MarkSet) (q q' : List ObjectId) → IsTrue w.one → w.two ≡ false → w.stale ≡ false → ((c : ObjectId) → m c ≡ no_marks) → q ≡ []
    → Begins h w f m q m' q' → Begun h f [] m' q'
begun_first h f w m m' q q' one two stale none empty b =
    let marks : (c : ObjectId) → m' c ≡ cond (same_id f c && is_some (entry_at h f)) (joined w no_marks) no_marks = λ c. b.marks c ∙ ap (λ z. cond (same_id f c && is_some (entry_at h f)) (joined w z) z) (none c) in
    record {
      one = λ c. rw (marks c) (elim (same_id f c && is_some (entry_at h f)) as (λ s. (cond s (joined w no_marks) no_marks).one ≡ s) [ true ↦ ap (λ z. z || false) one | false ↦ refl ]);
      two = λ c. rw (marks c) (elim (same_id f c && is_some (entry_at h f)) as (λ s. (cond s (joined w no_marks) no_marks).two ≡ false) [ true ↦ ap (λ z. z || false) two | false ↦ refl ]);
      stale = λ c. rw (marks c) (elim (same_id f c && is_some (entry_at h f)) as (λ s. (cond s (joined w no_marks) no_marks).stale ≡ false) [ true ↦ ap (λ z. z || false) stale | false ↦ refl ]);
      result = λ c. rw (marks c) (elim (same_id f c && is_some (entry_at h f)) as (λ s. (cond s (joined w no_marks) no_marks).result ≡ false) [ true ↦ refl | false ↦ refl ]);
      inside = λ c. inside_after h w f m m' q q' b c ∙ ap (λ z. (same_id f c && is_some (entry_at h f)) || is_one_of z c) empty
          ∙ rw (marks c) (elim (same_id f c && is_some (entry_at h f)) as (λ s. (s || false) ≡ ((cond s (joined w no_marks) no_marks).one || (cond s (joined w no_marks) no_marks).two)) [
            | true ↦ rw one refl
            | false ↦ refl
          ]);
      len = let k = len_after h w f m m' q q' b in let e : length q ≡ 0 = ap length empty in omega arith;
    }

pub begun_next : (h : History) (f o : ObjectId) (os : List ObjectId) (w : MarkSet) (m m' : ObjectId → MarkSet) (q q' : List ObjectId) → w.one ≡ false → IsTrue w.two → w.stale ≡ false
    → Begun h f os m q → Begins h w o m q m' q' → Begun h f (os ++ o ∷ []) m' q'
begun_next h f o os w m m' q q' one two stale old b = record {
  one = λ c. rw (b.marks c) (elim (same_id o c && is_some (entry_at h o)) as (λ s. (cond s (joined w (m c)) (m c)).one ≡ (same_id f c && is_some (entry_at h f))) [
    | true ↦ ap (λ z. z || (m c).one) one ∙ old.one c
    | false ↦ old.one c
  ]);
  two = λ c. rw (b.marks c, list_any-append (same_id c) os (o ∷ [])) (two_after c);
  stale = λ c. rw (b.marks c) (elim (same_id o c && is_some (entry_at h o)) as (λ s. (cond s (joined w (m c)) (m c)).stale ≡ false) [ true ↦ ap (λ z. z || (m c).stale) stale ∙ old.stale c | false ↦ old.stale c ]);
  result = λ c. rw (b.marks c) (elim (same_id o c && is_some (entry_at h o)) as (λ s. (cond s (joined w (m c)) (m c)).result ≡ false) [ true ↦ old.result c | false ↦ old.result c ]);
  inside = λ c. inside_after h w o m m' q q' b c ∙ rw (b.marks c, old.inside c) (elim (same_id o c && is_some (entry_at h o)) as (λ s. (s || ((m c).one || (m c).two)) ≡ ((cond s (joined w (m c)) (m c)).one || (cond s (joined w (m c)) (m c)).two)) [
    | true ↦ rw (one, two) (sym (or_true (m c).one))
    | false ↦ refl
  ]);
  len = let k = len_after h w o m m' q q' b in let l = old.len in let e = length_push os o in omega arith;
}
  where
    or_true : (x : Bool) → (x || true) ≡ true
    or_true true = refl
    or_true false = refl

    two_after : (c : ObjectId) → (cond (same_id o c && is_some (entry_at h o)) (joined w (m c)) (m c)).two ≡ ((is_one_of os c || (same_id c o || false)) && is_some (entry_at h c))
    two_after c =
        elim (same_id o c) as (λ s. same_id o c ≡ s → (cond (s && is_some (entry_at h o)) (joined w (m c)) (m c)).two ≡ ((is_one_of os c || (s || false)) && is_some (entry_at h c))) [
          | true ↦ λ e.
              let is : o ≡ c = same_id-true o c e in
              rw (or_true (is_one_of os c)) (rw (ap (λ z. is_some (entry_at h z)) is) (elim (is_some (entry_at h c)) as (λ s. is_some (entry_at h c) ≡ s → (cond s (joined w (m c)) (m c)).two ≡ s) [
                | true ↦ λ d. ap (λ z. z || (m c).two) two
                | false ↦ λ d. old.two c ∙ ap (λ z. is_one_of os c && z) d ∙ and_no (is_one_of os c)
              ] refl))
          | false ↦ λ e. old.two c ∙ ap (λ z. z && is_some (entry_at h c)) (sym (or_false (is_one_of os c)))
        ] refl
        ∙ ap (λ z. (is_one_of os c || (z || false)) && is_some (entry_at h c)) (same_id-sym o c)
      where
        or_true : (x : Bool) → (x || true) ≡ true
        or_true true = refl
        or_true false = refl

        or_false : (x : Bool) → (x || false) ≡ x
        or_false true = refl
        or_false false = refl

        and_no : (x : Bool) → (x && false) ≡ false
        and_no true = refl
        and_no false = refl

pub begun_taken : (h : History) (f : ObjectId) (os : List ObjectId) (i : ℕ) (d : ObjectId) (w : MarkSet) (m m' : ObjectId → MarkSet) (q q' : List ObjectId) → i < length os → w.one ≡ false → IsTrue w.two → w.stale ≡ false
    → Begun h f (take i os) m q → Begins h w (get_or os i d) m q m' q' → Begun h f (take (i + 1) os) m' q'
begun_taken h f os i d w m m' q q' below one two stale old b = rw (add-one, take-suc os i d below) (begun_next h f (get_or os i d) (take i os) w m m' q q' one two stale old b)

nothing : IsDistinct same_id []
unfolding IsDistinct
nothing = tt

no_two : (x : Bool) → x ≡ false → IsTrue x → ⊥
no_two x e k = cc

or_none : (x y : Bool) → (x || y) ≡ false → (x ≡ false) × (y ≡ false)
or_none true y k = cc
or_none false y k = (refl, k)

pub walk_begins : (h : History) (f : ObjectId) (os : List ObjectId) (began held : ObjectId → Type 0) (m : ObjectId → MarkSet) (q : List ObjectId) → Begun h f os m q
    → ((p : ObjectId) → held p → began p ⊎ IsHandedIn f os p) → IsWalk h f os began held m q [] 0
walk_begins h f os began held m q b holds =
    let f_one : (c : ObjectId) → IsTrue (m c).one → (f ≡ c) × Has h f = λ c k. let p = and_both _ _ (sym (b.one c) ∙ k) in (same_id-true f c p.0, p.1) in
    let o_two : (c : ObjectId) → IsTrue (m c).two → IsTrue (is_one_of os c) × Has h c = λ c k. and_both _ _ (sym (b.two c) ∙ k) in
    record {
      popped = [];
      counts = refl;
      painting = record {
        first = λ has. b.one f ∙ and_pair _ _ (same_id-itself f) has;
        others = λ o k has. b.two o ∙ and_pair _ _ k has;
        one = λ c k. let p = f_one c k in subst (λ z. IsAncestor h f z) p.0 (itself p.1);
        two = λ c k. let p = o_two c k in (c, p.0, itself p.1);
        stale = λ c k. absurd (no_two _ (b.stale c) k);
        reached = λ c k. absurd (no_two _ (b.stale c) k);
        begun = λ r p k e. cc;
        both = λ c k. absurd (no_two _ (b.stale c) k);
        queued = λ c k. or_either _ _ (sym (b.inside c) ∙ k);
        settled = λ c. elim ((m c).one || (m c).two) as (λ s. ((m c).one || (m c).two) ≡ s → IsTrue (is_one_of q c) ⊎ Handed h m [] [] c) [
          | true ↦ λ e. inl (b.inside c ∙ e)
          | false ↦ λ e.
              let n = or_none _ _ e in
              inr (record {
                gave = λ p edge. record {
                  one = λ k. absurd (no_two _ n.0 k);
                  two = λ k. absurd (no_two _ n.1 k);
                  stale = λ k. absurd (no_stale c n.0 k);
                };
                result = λ k j. absurd (no_two _ n.0 k);
                was = λ k. elim k as (λ _. IsTrue (is_one_of [] c)) [ inl a ↦ absurd (no_two _ n.0 a) | inr d ↦ absurd (no_two _ n.1 d) ];
              })
        ] refl;
        noted = λ c. b.result c;
        common = λ c k. cc;
        once = nothing;
      };
      spent = λ ids covers. let l = b.len in omega arith;
      fresh = λ falls z k. inr (elim (or_either (m z).one (m z).two (sym (b.inside z) ∙ k)) as (λ _. Has h z × IsOutside h f os z) [
        | inl a ↦ let p = f_one z a in (subst (λ y. Has h y) p.0 p.1, inl (inl (sym p.0)))
        | inr d ↦ let p = o_two z d in (p.1, inl (inr p.0))
      ]);
      best = λ falls r k. cc;
      ordered = λ none. record { falling = tt; above = λ r z k j. cc };
      taken = λ falls p k. elim (holds p k) as (λ _. began p ⊎ MayBeTaken h f os p) [ inl a ↦ inl a | inr x ↦ inr (inl x) ];
      met = λ p k. elim (holds p k) as (λ _. began p ⊎ MayBeMet h f os p) [ inl a ↦ inl a | inr x ↦ inr (inl x) ];
    }
  where
    no_stale : (c : ObjectId) → (m c).one ≡ false → IsTrue ((m c).stale || ((m c).one && (m c).two)) → ⊥
    no_stale c e k = elim (or_either (m c).stale ((m c).one && (m c).two) k) as (λ _. ⊥) [ inl s ↦ no_two _ (b.stale c) s | inr x ↦ no_two _ e (and_both _ _ x).0 ]

pub begins_one : (h : History) (w : MarkSet) (id : ObjectId) (m m' : ObjectId → MarkSet) (q q' : List ObjectId) → Has h id → ((c : ObjectId) → m' c ≡ cond (same_id id c) (joined w (m c)) (m c)) → IsPermutation (id ∷ q) q'
    → Begins h w id m q m' q'
begins_one h w id m m' q q' has marks perm = record {
  marks = λ c. marks c ∙ rw has (elim (same_id id c) as (λ s. cond s (joined w (m c)) (m c) ≡ cond (s && true) (joined w (m c)) (m c)) [ true ↦ refl | false ↦ refl ]);
  queue = rw has perm;
}

-- a look-up before it moves no mark
pub begins_grown : (h : History) (w : MarkSet) (id : ObjectId) (m mid m' : ObjectId → MarkSet) (q q1 q' : List ObjectId) → ((c : ObjectId) → mid c ≡ m c) → q1 ≡ q → Begins h w id mid q1 m' q' → Begins h w id m q m' q'
begins_grown h w id m mid m' q q1 q' same is b =
    let eq : mid ≡ m = fun_ext same in
    subst (λ y. Begins h w id y q m' q') eq (subst (λ x. Begins h w id mid x m' q') is b)

-- nothing is queued
pub counts_nothing : (m : ObjectId → MarkSet) (n : ObjectId → ℕ) → ((c : ObjectId) → n c ≡ 0) → Counts m n [] 0
counts_nothing m n none = record { unstale = refl; times = λ c. none c }

-- what is held while those handed in are taken in
pub holds_first : (h : History) (f : ObjectId) (A B D : ObjectId → Type 0) → ((q : ObjectId) → B q → A q) → ((q : ObjectId) → D q → B q ⊎ (IsTrue (is_one_of (f ∷ []) q) × Has h q)) → (q : ObjectId) → D q → A q ⊎ IsHandedIn f [] q
holds_first h f A B D ab db q k = elim (db q k) as (λ _. A q ⊎ IsHandedIn f [] q) [
  | inl b ↦ inl (ab q b)
  | inr x ↦ inr (elim (one_of-cons_cases f [] q x.0) as (λ _. IsHandedIn f [] q) [ inl e ↦ inl e | inr e ↦ inr e ])
]

pub holds_another : (h : History) (f : ObjectId) (os : List ObjectId) (i : ℕ) (d : ObjectId) (A B D : ObjectId → Type 0) → i < length os → ((q : ObjectId) → B q → A q ⊎ IsHandedIn f (take i os) q)
    → ((q : ObjectId) → D q → B q ⊎ (IsTrue (is_one_of (get_or os i d ∷ []) q) × Has h q)) → (q : ObjectId) → D q → A q ⊎ IsHandedIn f (take (i + 1) os) q
holds_another h f os i d A B D below ab db q k = rw (add-one, take-suc os i d below) (elim (db q k) as (λ _. A q ⊎ IsHandedIn f (take i os ++ get_or os i d ∷ []) q) [
  | inl b ↦ elim (ab q b) as (λ _. A q ⊎ IsHandedIn f (take i os ++ get_or os i d ∷ []) q) [
    | inl a ↦ inl a
    | inr x ↦ inr (elim x as (λ _. IsHandedIn f (take i os ++ get_or os i d ∷ []) q) [ inl e ↦ inl e | inr m ↦ inr (one_of-left (take i os) (get_or os i d ∷ []) q m) ])
  ]
  | inr x ↦ inr (inr (one_of-right (take i os) (get_or os i d ∷ []) q x.0))
])

pub holds_all : (f : ObjectId) (os : List ObjectId) (n : ℕ) (A D : ObjectId → Type 0) → ((q : ObjectId) → D q → A q ⊎ IsHandedIn f (take n os) q) → (q : ObjectId) → D q → A q ⊎ IsHandedIn f os q
holds_all f os n A D ad q k = elim (ad q k) as (λ _. A q ⊎ IsHandedIn f os q) [
  | inl a ↦ inl a
  | inr x ↦ inr (elim x as (λ _. IsHandedIn f os q) [ inl e ↦ inl e | inr m ↦ inr (one_of-taken n os q m) ])
]
