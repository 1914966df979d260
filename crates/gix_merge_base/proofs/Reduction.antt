-- The walk of the reduction.
use Rattle.std.proofs.Common.{◌≡◌, ℕ, Bool, true, false, cond, refl, ap, sym, subst, ◌∙◌, List, [], ◌∷◌, ◌++◌, ◌⊎◌, inl, inr, ◌||◌, ◌&&◌, not, IsTrue, ◌↔◌, is_some, ◌+◌, ◌*◌, ◌-◌, ◌≤◌, ◌<◌, length, arith, map, Option, Some, None}
use Rattle.std.specs.List.{IsDistinct, AllByRecursion, filter}
use Rattle.std.specs.List.Sorted.{IsPermutation}
use Rattle.std.proofs.lemmas.List.Sorted.{list_any-IsPermutation, length_permutation}
use Rattle.std.proofs.lemmas.List.{append-nil, append_assoc}
use Rattle.std.proofs.lemmas.Map.Keys.{IsDistinct-push}
use Rattle.std.proofs.Math.Path.{fun_ext}
use Rattle.gix_base.specs.declared.hash.ObjectId.{ObjectId}
use Rattle.gix_revwalk.specs.History.{History, Entry, entry_at, parents_in, Has, IsEdge, IsAncestor, IsAncestorOfOne, is_one_of, same_id, generation_of}
use Rattle.gix_merge_base.specs.Premises.{IsAcyclicFrom, GenerationsNeverRiseFrom}
use Rattle.gix_revwalk.specs.History.IsAncestor.{itself, further}
use Rattle.gix_revwalk.specs.Walks.{parents_of_all, all_added}
use Rattle.gix_merge_base.specs.Marks.{MarkSet, marks_in, level, met}
use Rattle.gix_merge_base.specs.PaintSteps.{Hands, total}
use Rattle.gix_merge_base.specs.Reducing.{firsts, IsIndependent}
use Rattle.gix_merge_base.specs.ReduceSteps.{IsBelow, Reducing, Unmarked}
use Rattle.gix_revwalk.proofs.Ids.{same_id-laws, same_id-equal}
use Rattle.gix_revwalk.proofs.Members.{one_of-head, one_of-tail, one_of-cons_cases, one_of-left, one_of-right, one_of-cases, one_of-single, one_of-filter, one_of-filtered}
use Rattle.gix_revwalk.proofs.Ancestors.{anc-trans, anc-edge}
use Rattle.gix_merge_base.proofs.Maximal.{parent_of_one, one_with_parent}
use Rattle.gix_merge_base.proofs.Painting.{Painting, last, which_mark, marked_has}
use Rattle.gix_merge_base.proofs.PaintWalk.{total_bound, length_keys, keys_all}

still : (x y : Bool) → (IsTrue x → IsTrue y) → y ≡ false → x ≡ false
still true y k e = let t = k refl in cc
still false y k e = refl

level_true : (x y z : Bool) → IsTrue x ⊎ (IsTrue y ⊎ IsTrue z) → 1 ≤ level x + (level y + level z)
level_true true y z k = omega arith
level_true false true z k = omega arith
level_true false false true k = omega arith
level_true false false false k = elim k as (λ _. 1 ≤ level false + (level false + level false)) [ inl a ↦ cc | inr b ↦ elim b as (λ _. 1 ≤ level false + (level false + level false)) [ inl a ↦ cc | inr d ↦ cc ] ]

pub hands_has : (h : History) (w : MarkSet) (ps : List ObjectId) (m m' : ObjectId → MarkSet) (q q' : List ObjectId) → Hands h w ps m q m' q' → ((c : ObjectId) → 1 ≤ marks_in (m c) → Has h c) → (c : ObjectId) → 1 ≤ marks_in (m' c) → Has h c
hands_has h w ps m m' q q' did old c k =
    elim (which_mark (m' c) k) as (λ _. Has h c) [
      | inl a ↦ elim (did.one c a) as (λ _. Has h c) [ inl x ↦ old c (level_true (m c).one (m c).two (m c).stale (inl x)) | inr y ↦ y.2 ]
      | inr b ↦ elim b as (λ _. Has h c) [
        | inl a ↦ elim (did.two c a) as (λ _. Has h c) [ inl x ↦ old c (level_true (m c).one (m c).two (m c).stale (inr (inl x))) | inr y ↦ y.2 ]
        | inr a ↦ elim (did.stale c a) as (λ _. Has h c) [ inl x ↦ old c (level_true (m c).one (m c).two (m c).stale (inr (inr x))) | inr y ↦ y.2 ]
      ]
    ]

pub unmarked_none : (m : ObjectId → MarkSet) → Unmarked m → (c : ObjectId) → 1 ≤ marks_in (m c) → ⊥
unmarked_none m none c k = let e = none c in let a = ap level e.0 in let b = ap level e.1 in let d = ap level e.2 in omega arith

-- what holds once the parents of all the ids are met
pub reduce_begins : (h : History) (ids : List ObjectId) (m m' : ObjectId → MarkSet) (q' : List ObjectId) → Unmarked m → Hands h met (parents_of_all h ids) m [] m' q' → Reducing h ids m' q'
reduce_begins h ids m m' q' none did = record {
  sound = λ c k. elim (did.stale c k) as (λ _. IsBelow h ids c) [
    | inl x ↦ absurd (unmarked c x)
    | inr y ↦ let r = one_with_parent h ids c y.1 in (r.0, r.1, c, (r.2, y.2), itself y.2)
  ];
  begun = λ r p k e. (did.gets p (parent_of_one h ids r p k e.0) e.1).stale refl;
  queued = λ c k. elim (did.from c k) as (λ _. IsTrue (m' c).stale) [ inl x ↦ cc | inr y ↦ y.2.stale refl ];
  settled = λ c k. inl (elim (did.changed c) as (λ _. IsTrue (is_one_of q' c)) [ inl e ↦ absurd (unmarked c (subst (λ z. IsTrue z.stale) e k)) | inr x ↦ x ]);
  has = hands_has h met (parents_of_all h ids) m m' [] q' did (λ c k. absurd (unmarked_none m none c k));
}
  where
    unmarked : (c : ObjectId) → IsTrue (m c).stale → ⊥
    unmarked c k = let e = (none c).2 in cc

-- what a met commit is, between two pops
abbrev Fate : History → List ObjectId → (ObjectId → MarkSet) → List ObjectId → ObjectId → Type 0
Fate h ids m2 q2 p = IsTrue (is_one_of q2 p) ⊎ (((r : ObjectId) → IsEdge h p r → IsTrue (m2 r).stale) ⊎ ((r : ObjectId) → IsTrue (is_one_of ids r) → (m2 r).stale ≡ false → generation_of h p < generation_of h r))

-- what holds once painting has ended, if each queued commit is stale: its results can be reduced
pub reduce_painted : (h : History) (f : ObjectId) (os : List ObjectId) (m : ObjectId → MarkSet) (q results popped : List ObjectId) → Painting h f os m q results popped
    → ((c : ObjectId) → IsTrue (is_one_of q c) → IsTrue (m c).stale) → Reducing h results m q
reduce_painted h f os m q results popped at stale = record {
  sound = at.reached;
  begun = at.begun;
  queued = stale;
  settled = λ c k. elim (at.settled c) as (λ _. Fate h results m q c) [
    | inl x ↦ inl x
    | inr handed ↦ inr (inl (λ p e. (handed.gave p e).stale (ap (λ z. z || ((m c).one && (m c).two)) k)))
  ];
  has = marked_has h f os m q results popped at;
}

pub reduce_goes : (h : History) (ids : List ObjectId) (c : ObjectId) (m m2 : ObjectId → MarkSet) (q q2 : List ObjectId) → Reducing h ids m (c ∷ q) → Hands h met (parents_in (entry_at h c)) m q m2 q2 → Reducing h ids m2 q2
reduce_goes h ids c m m2 q q2 at did = record {
  sound = λ p k. elim (did.stale p k) as (λ _. IsBelow h ids p) [
    | inl x ↦ at.sound p x
    | inr y ↦ let s = at.sound c (at.queued c (one_of-head c q)) in (s.0, s.1, s.2, s.3, further c p s.4 (y.1, y.2))
  ];
  begun = λ r p k e. (did.more p).stale (at.begun r p k e);
  queued = λ p k. elim (did.from p k) as (λ _. IsTrue (m2 p).stale) [ inl x ↦ (did.more p).stale (at.queued p (one_of-tail c q p x)) | inr y ↦ y.2.stale refl ];
  settled = λ p k. elim (did.changed p) as (λ _. Fate h ids m2 q2 p) [
    | inr x ↦ inl x
    | inl e ↦ elim (at.settled p (subst (λ z. IsTrue z.stale) e k)) as (λ _. Fate h ids m2 q2 p) [
      | inl x ↦ elim (one_of-cons_cases c q p x) as (λ _. Fate h ids m2 q2 p) [
        | inl is ↦ inr (inl (λ r edge. (did.gets r (subst (λ z. IsTrue (is_one_of (parents_in (entry_at h z)) r)) is edge.0) edge.1).stale refl))
        | inr y ↦ inl (did.stay p y)
      ]
      | inr y ↦ elim y as (λ _. Fate h ids m2 q2 p) [
        | inl x ↦ inr (inl (λ r edge. (did.more r).stale (x r edge)))
        | inr x ↦ inr (inr (λ r k' d. x r k' (still (m r).stale (m2 r).stale (did.more r).stale d)))
      ]
    ]
  ];
  has = hands_has h met (parents_in (entry_at h c)) m m2 q q2 did at.has;
}

-- c lies under each id that is not met
pub reduce_cuts : (h : History) (ids : List ObjectId) (c : ObjectId) (m : ObjectId → MarkSet) (q : List ObjectId) → Reducing h ids m (c ∷ q)
    → ((r : ObjectId) → IsTrue (is_one_of ids r) → (m r).stale ≡ false → generation_of h c < generation_of h r) → Reducing h ids m q
reduce_cuts h ids c m q at under = record {
  sound = at.sound;
  begun = at.begun;
  queued = λ p k. at.queued p (one_of-tail c q p k);
  settled = λ p k. elim (at.settled p k) as (λ _. IsTrue (is_one_of q p) ⊎ (((r : ObjectId) → IsEdge h p r → IsTrue (m r).stale) ⊎ ((r : ObjectId) → IsTrue (is_one_of ids r) → (m r).stale ≡ false → generation_of h p < generation_of h r))) [
    | inr y ↦ inr y
    | inl x ↦ elim (one_of-cons_cases c q p x) as (λ _. IsTrue (is_one_of q p) ⊎ (((r : ObjectId) → IsEdge h p r → IsTrue (m r).stale) ⊎ ((r : ObjectId) → IsTrue (is_one_of ids r) → (m r).stale ≡ false → generation_of h p < generation_of h r))) [
      | inl is ↦ inr (inr (λ r k' d. subst (λ z. generation_of h z < generation_of h r) (sym is) (under r k' d)))
      | inr y ↦ inl y
    ]
  ];
  has = at.has;
}

pub reducing_same : (h : History) (ids ids' : List ObjectId) (m m' : ObjectId → MarkSet) (q q' : List ObjectId) → ids' ≡ ids → ((c : ObjectId) → m' c ≡ m c) → q' ≡ q → Reducing h ids m q → Reducing h ids' m' q'
reducing_same h ids ids' m m' q q' is same queue at =
    let marks : m' ≡ m = fun_ext same in
    subst (λ l. Reducing h l m' q') (sym is) (subst (λ y. Reducing h ids y q') (sym marks) (subst (λ l. Reducing h ids m l) (sym queue) at))

pub reduce_permuted : (h : History) (ids : List ObjectId) (m : ObjectId → MarkSet) (q q' : List ObjectId) → IsPermutation q q' → Reducing h ids m q → Reducing h ids m q'
reduce_permuted h ids m q q' perm at =
    let inside : (c : ObjectId) → is_one_of q c ≡ is_one_of q' c = λ c. list_any-IsPermutation (same_id c) q q' perm in
    record {
      sound = at.sound;
      begun = at.begun;
      queued = λ p k. at.queued p (inside p ∙ k);
      settled = λ p k. elim (at.settled p k) as (λ _. IsTrue (is_one_of q' p) ⊎ (((r : ObjectId) → IsEdge h p r → IsTrue (m r).stale) ⊎ ((r : ObjectId) → IsTrue (is_one_of ids r) → (m r).stale ≡ false → generation_of h p < generation_of h r))) [
        | inl x ↦ inl (sym (inside p) ∙ x)
        | inr y ↦ inr y
      ];
      has = at.has;
    }

pub generations_along : (h : History) (ids : List ObjectId) → GenerationsNeverRiseFrom h ids → (a c : ObjectId) → IsAncestorOfOne h ids a → IsAncestor h a c → generation_of h c ≤ generation_of h a
generations_along h ids hold a c reached (itself has) = omega arith
generations_along h ids hold a c reached (further b c' p e) =
    let x = generations_along h ids hold a b reached p in
    let y = hold b c (reached.0, reached.1, anc-trans h reached.0 a b reached.2 p) e in
    omega arith

-- at the end
module _ (h : History) (ids : List ObjectId) (m : ObjectId → MarkSet) (at : Reducing h ids m []) where
  met_down : GenerationsNeverRiseFrom h ids → (c : ObjectId) → IsTrue (is_one_of ids c) → (m c).stale ≡ false → (t b : ObjectId) → IsTrue (is_one_of ids t) → IsAncestor h t b → IsAncestor h b c → (t ≡ b) ⊎ IsTrue (m b).stale
  met_down hold c c_in out t b t_in (itself has) leads = inl refl
  met_down hold c c_in out t b t_in (further a b' p e) leads =
      let up = anc-trans h a b c (anc-edge h a b (last h t a p) e) leads in
      inr (elim (met_down hold c c_in out t a t_in p up) as (λ _. IsTrue (m b).stale) [
        | inl is ↦ at.begun t b t_in (subst (λ z. IsEdge h z b) (sym is) e)
        | inr s ↦ elim (at.settled a s) as (λ _. IsTrue (m b).stale) [
          | inl x ↦ cc
          | inr y ↦ elim y as (λ _. IsTrue (m b).stale) [
            | inl x ↦ x b e
            | inr x ↦ let less = x c c_in out in let high = generations_along h ids hold a c (t, t_in, p) up in absurd (omega arith)
          ]
        ]
      ])

  pub left_is_max : GenerationsNeverRiseFrom h ids → (c : ObjectId) → IsTrue (is_one_of ids c) → (m c).stale ≡ false → IsIndependent h ids c
  left_is_max hold c c_in out = (
    c_in,
    λ t t_in leads. elim (met_down hold c c_in out t c t_in leads (itself (last h t c leads))) as (λ _. t ≡ c) [ inl is ↦ is | inr s ↦ cc ],
  )

pub has_parents : (h : History) (r p : ObjectId) → IsEdge h r p → Has h r
has_parents h r p e = there (entry_at h r) e.0
  where
    there : (x : Option Entry) → IsTrue (is_one_of (parents_in x) p) → IsTrue (is_some x)
    there (Some y) k = refl
    there None k = cc

-- whatever the generations, and however early the walk ends
pub max_is_left : (h : History) (ids : List ObjectId) (m : ObjectId → MarkSet) (q : List ObjectId) → IsAcyclicFrom h ids → Reducing h ids m q → (c : ObjectId) → IsIndependent h ids c → (m c).stale ≡ false
max_is_left h ids m q acyclic at c max =
    elim (m c).stale as (λ s. (m c).stale ≡ s → s ≡ false) [
      | false ↦ λ e. refl
      | true ↦ λ e.
          let s = at.sound c e in
          let is : s.0 ≡ c = max.1 s.0 s.1 (anc-trans h s.0 s.2 c (anc-edge h s.0 s.2 (has_parents h s.0 s.2 s.3) s.3) s.4) in
          absurd (acyclic s.0 s.2 (s.0, s.1, itself (has_parents h s.0 s.2 s.3)) s.3 (subst (λ z. IsAncestor h s.2 z) (sym is) s.4))
    ] refl

-- gathering
gathered_has : (xs ps : List ObjectId) (c : ObjectId) → IsTrue (is_one_of (all_added xs ps) c) ↔ (IsTrue (is_one_of xs c) ⊎ IsTrue (is_one_of ps c))
gathered_has xs [] c = (λ k. inl k, λ k. elim k as (λ _. IsTrue (is_one_of xs c)) [ inl x ↦ x | inr y ↦ cc ])
gathered_has xs (p ∷ ps) c =
    elim (is_one_of xs p) as (λ b. is_one_of xs p ≡ b → IsTrue (is_one_of (all_added (cond b xs (xs ++ p ∷ [])) ps) c) ↔ (IsTrue (is_one_of xs c) ⊎ IsTrue (is_one_of (p ∷ ps) c))) [
      | true ↦ λ e. (
        λ k. elim ((gathered_has xs ps c).0 k) as (λ _. IsTrue (is_one_of xs c) ⊎ IsTrue (is_one_of (p ∷ ps) c)) [ inl x ↦ inl x | inr y ↦ inr (one_of-tail p ps c y) ],
        λ k. (gathered_has xs ps c).1 (elim k as (λ _. IsTrue (is_one_of xs c) ⊎ IsTrue (is_one_of ps c)) [
          | inl x ↦ inl x
          | inr y ↦ elim (one_of-cons_cases p ps c y) as (λ _. IsTrue (is_one_of xs c) ⊎ IsTrue (is_one_of ps c)) [ inl is ↦ inl (subst (λ z. IsTrue (is_one_of xs z)) (sym is) e) | inr z ↦ inr z ]
        ]),
      )
      | false ↦ λ e. (
        λ k. elim ((gathered_has (xs ++ p ∷ []) ps c).0 k) as (λ _. IsTrue (is_one_of xs c) ⊎ IsTrue (is_one_of (p ∷ ps) c)) [
          | inl x ↦ elim (one_of-cases xs (p ∷ []) c x) as (λ _. IsTrue (is_one_of xs c) ⊎ IsTrue (is_one_of (p ∷ ps) c)) [
            | inl z ↦ inl z
            | inr z ↦ inr (subst (λ y. IsTrue (is_one_of (p ∷ ps) y)) (sym (one_of-single p c z)) (one_of-head p ps))
          ]
          | inr y ↦ inr (one_of-tail p ps c y)
        ],
        λ k. (gathered_has (xs ++ p ∷ []) ps c).1 (elim k as (λ _. IsTrue (is_one_of (xs ++ p ∷ []) c) ⊎ IsTrue (is_one_of ps c)) [
          | inl x ↦ inl (one_of-left xs (p ∷ []) c x)
          | inr y ↦ elim (one_of-cons_cases p ps c y) as (λ _. IsTrue (is_one_of (xs ++ p ∷ []) c) ⊎ IsTrue (is_one_of ps c)) [
            | inl is ↦ inl (one_of-right xs (p ∷ []) c (subst (λ z. IsTrue (is_one_of (p ∷ []) z)) (sym is) (one_of-head p [])))
            | inr z ↦ inr z
          ]
        ]),
      )
    ] refl

pub firsts_has : (ids : List ObjectId) (c : ObjectId) → IsTrue (is_one_of (firsts ids) c) ↔ IsTrue (is_one_of ids c)
firsts_has ids c = (
  λ k. elim ((gathered_has [] ids c).0 k) as (λ _. IsTrue (is_one_of ids c)) [ inl x ↦ cc | inr y ↦ y ],
  λ k. (gathered_has [] ids c).1 (inr k),
)

gathered_once : (xs ps : List ObjectId) → IsDistinct same_id xs → IsDistinct same_id (all_added xs ps)
gathered_once xs [] d = d
gathered_once xs (p ∷ ps) d = elim (is_one_of xs p) as (λ b. is_one_of xs p ≡ b → IsDistinct same_id (all_added (cond b xs (xs ++ p ∷ [])) ps)) [
  | true ↦ λ e. gathered_once xs ps d
  | false ↦ λ e. gathered_once (xs ++ p ∷ []) ps (IsDistinct-push same_id-laws xs p d e)
] refl

nothing : IsDistinct same_id []
unfolding IsDistinct
nothing = tt

-- an id that stands twice
not_twice : (xs ps : List ObjectId) (p : ObjectId) → IsTrue (is_one_of xs p) → IsDistinct same_id (xs ++ p ∷ ps) → ⊥
unfolding IsDistinct
not_twice [] ps p k d = cc
not_twice (x ∷ xs) ps p k d = elim (one_of-cons_cases x xs p k) as (λ _. ⊥) [
  | inl is ↦
      let off : same_id x p ≡ false = behind (λ y. same_id x y ≡ false) xs d.0 in
      let on : same_id x p ≡ true = same_id-equal x p (sym is) in
      cc
  | inr m ↦ not_twice xs ps p m d.1
]
  where
    behind : (P : ObjectId → Type 0) (ys : List ObjectId) → AllByRecursion P (ys ++ p ∷ ps) → P p
    behind P [] all = all.0
    behind P (y ∷ ys) all = behind P ys all.1

-- each id stands once already
gathered_all : (xs ps : List ObjectId) → IsDistinct same_id (xs ++ ps) → all_added xs ps ≡ xs ++ ps
gathered_all xs [] d = sym (append-nil xs)
gathered_all xs (p ∷ ps) d =
    let moved : (xs ++ p ∷ []) ++ ps ≡ xs ++ p ∷ ps = append_assoc xs (p ∷ []) ps in
    elim (is_one_of xs p) as (λ b. is_one_of xs p ≡ b → all_added (cond b xs (xs ++ p ∷ [])) ps ≡ xs ++ p ∷ ps) [
      | true ↦ λ e. absurd (not_twice xs ps p e d)
      | false ↦ λ e. gathered_all (xs ++ p ∷ []) ps (subst (IsDistinct same_id) (sym moved) d) ∙ moved
    ] refl

pub firsts_all : (ids : List ObjectId) → IsDistinct same_id ids → firsts ids ≡ ids
firsts_all ids d = gathered_all [] ids d

pub firsts_once : (ids : List ObjectId) → IsDistinct same_id (firsts ids)
firsts_once ids = gathered_once [] ids nothing

-- the answer
pub left_over : (m : ObjectId → MarkSet) (ids : List ObjectId) (c : ObjectId) → IsTrue (is_one_of (filter (λ x. not (m x).stale) (firsts ids)) c) ↔ (IsTrue (is_one_of ids c) × ((m c).stale ≡ false))
left_over m ids c = (
  λ k. let r = one_of-filter (λ x. not (m x).stale) (firsts ids) c k in ((firsts_has ids c).0 r.0, unset (m c).stale r.1),
  λ k. one_of-filtered (λ x. not (m x).stale) (firsts ids) c ((firsts_has ids c).1 k.0) (ap not k.1),
)
  where
    unset : (b : Bool) → IsTrue (not b) → b ≡ false
    unset false k = refl
    unset true k = cc

-- how many pops the reduction has left at most
abbrev pub left_to_meet : History → (ObjectId → MarkSet) → List ObjectId → ℕ
left_to_meet h m q = length q + (3 * length h - total (map (λ e. e.0) h) m)

-- a pop takes one away
pub fewer_cut : (h : History) (m : ObjectId → MarkSet) (c : ObjectId) (q0 q : List ObjectId) → IsPermutation q0 (c ∷ q) → left_to_meet h m q + 1 ≤ left_to_meet h m q0
fewer_cut h m c q0 q perm = let l : length (c ∷ q) ≡ length q0 = length_permutation q0 (c ∷ q) perm in omega arith

pub fewer_handed : (h : History) (m m2 : ObjectId → MarkSet) (c : ObjectId) (q0 q q2 : List ObjectId) → IsPermutation q0 (c ∷ q) → Hands h met (parents_in (entry_at h c)) m q m2 q2
    → ((p : ObjectId) → 1 ≤ marks_in (m2 p) → Has h p) → left_to_meet h m2 q2 + 1 ≤ left_to_meet h m q0
fewer_handed h m m2 c q0 q q2 perm did has =
    let l : length (c ∷ q) ≡ length q0 = length_permutation q0 (c ∷ q) perm in
    let s = did.spends (map (λ e. e.0) h) (λ p k. keys_all h p (has p k)) in
    let a = total_bound (map (λ e. e.0) h) m in
    let b = total_bound (map (λ e. e.0) h) m2 in
    let k = length_keys h in
    omega arith

pub fewer_left : (h : History) (ids : List ObjectId) (m m2 : ObjectId → MarkSet) (c : ObjectId) (q0 q q2 : List ObjectId) → IsPermutation q0 (c ∷ q) → Hands h met (parents_in (entry_at h c)) m q m2 q2 → Reducing h ids m2 q2
    → left_to_meet h m2 q2 + 1 ≤ left_to_meet h m q0
fewer_left h ids m m2 c q0 q q2 perm did at = fewer_handed h m m2 c q0 q q2 perm did at.has
