-- What the marks of painting say of commits that only one side reaches.
use Rattle.std.proofs.Common.{◌≡◌, Bool, true, false, cond, refl, sym, subst, ◌∙◌, List, [], ◌∷◌, ◌++◌, ◌⊎◌, inl, inr, not, IsTrue, length, arith}
use Rattle.std.specs.List.{filter}
use Rattle.std.specs.List.Sorted.{IsPermutation}
use Rattle.std.proofs.lemmas.List.Sorted.{list_any-IsPermutation}
use Rattle.std.proofs.Math.Path.{fun_ext}
use Rattle.gix_base.specs.declared.hash.ObjectId.{ObjectId}
use Rattle.gix_revwalk.specs.Graph.{Graphed}
use Rattle.gix_revwalk.specs.History.{History, IsAncestor, IsAncestorOfOne, is_one_of, same_id}
use Rattle.gix_revwalk.specs.History.IsAncestor.{itself, further}
use Rattle.gix_revwalk.specs.Number.{place_in}
use Rattle.gix_revwalk.specs.Walks.{added}
use Rattle.gix_revwalk.specs.declared.graph.commit.Commit.{Commit}
use Rattle.gix_revwalk.specs.declared.numbers.Number.{Number}
use Rattle.gix_revwalk.proofs.Members.{one_of-left, one_of-right, one_of-single, one_of-head, one_of-cons_cases, one_of-filter, one_of-filtered}
use Rattle.gix_merge_base.specs.Front.{HoldsSame, Pops}
use Rattle.gix_merge_base.specs.Marks.{MarkSet}
use Rattle.gix_merge_base.specs.PaintQueue.{marks_at, queued_ids, id_of}
use Rattle.gix_merge_base.specs.PaintSteps.{Steps, results_after}
use Rattle.gix_merge_base.specs.Sides.{HasPopped, CoversSide, is_one_alone, is_two_alone}
use Rattle.gix_merge_base.specs.declared.merge_base.flags.Flags.{Flags}
use Rattle.gix_merge_base.specs.declared.merge_base.hand.Front.{Front}
use Rattle.gix_merge_base.proofs.Numbered.{id-same}
use Rattle.gix_merge_base.proofs.Painting.{Painting, Handed, popped_keeps, and_both, and_pair}
use Rattle.gix_merge_base.proofs.PaintWalk.{IsWalk}

-- the queue and the popped commits matter only as sets
painting_more : (h : History) (f : ObjectId) (os : List ObjectId) (m : ObjectId → MarkSet) (q q' results popped popped' : List ObjectId)
    → ((c : ObjectId) → is_one_of q c ≡ is_one_of q' c) → ((c : ObjectId) → IsTrue (is_one_of popped c) → IsTrue (is_one_of popped' c))
    → Painting h f os m q results popped → Painting h f os m q' results popped'
painting_more h f os m q q' results popped popped' inside more at = record {
  first = at.first;
  others = at.others;
  one = at.one;
  two = at.two;
  stale = at.stale;
  reached = at.reached;
  begun = at.begun;
  both = at.both;
  queued = λ c k. at.queued c (inside c ∙ k);
  settled = λ c. elim (at.settled c) as (λ _. IsTrue (is_one_of q' c) ⊎ Handed h m results popped' c) [
    | inl k ↦ inl (sym (inside c) ∙ k)
    | inr d ↦ inr (record { gave = d.gave; result = d.result; was = λ k. more c (d.was k) })
  ];
  noted = at.noted;
  common = at.common;
  once = at.once;
}

-- before the first pop nothing was popped
pub painting_begins : (h : History) (f : ObjectId) (os : List ObjectId) (began held : ObjectId → Type 0) (m : ObjectId → MarkSet) (q results popped : List ObjectId) → IsWalk h f os began held m q results 0 → Painting h f os m q results popped
painting_begins h f os began held m q results popped w = painting_more h f os m q q results w.popped popped (λ c. refl) (λ c k. absurd (none w.popped c w.counts k)) w.painting
  where
    none : (xs : List ObjectId) (c : ObjectId) → 0 ≡ length xs → IsTrue (is_one_of xs c) → ⊥
    none [] c e k = cc
    none (x ∷ xs) c e k = omega arith

added_one : (xs : List ObjectId) (x c : ObjectId) → IsTrue (is_one_of (x ∷ xs) c) → IsTrue (is_one_of (added xs x) c)
added_one xs x c k = elim (is_one_of xs x) as (λ b. is_one_of xs x ≡ b → IsTrue (is_one_of (cond b xs (xs ++ x ∷ [])) c)) [
  | true ↦ λ e. elim (one_of-cons_cases x xs c k) as (λ _. IsTrue (is_one_of xs c)) [ inl is ↦ subst (λ z. IsTrue (is_one_of xs z)) (sym is) e | inr r ↦ r ]
  | false ↦ λ e. elim (one_of-cons_cases x xs c k) as (λ _. IsTrue (is_one_of (xs ++ x ∷ []) c)) [
    | inl is ↦ subst (λ z. IsTrue (is_one_of (xs ++ x ∷ []) z)) (sym is) (one_of-right xs (x ∷ []) x (one_of-head x []))
    | inr r ↦ one_of-left xs (x ∷ []) c r
  ]
] refl

-- from a, by the pop of n to b, to c
pub next_painting : {S A : Type 0} (h : History) (f : ObjectId) (os : List ObjectId) (a b c : Graphed S (Commit Flags A)) (d e k : Front A) (n : Number) (results popped : List ObjectId)
    → HoldsSame a b → Pops h n a d b e → Painting h f os (marks_at a) (queued_ids a d.queue) results popped
    → Steps h (id_of b n) (marks_at b) (queued_ids b e.queue) (marks_at c) (queued_ids c k.queue)
    → Painting h f os (marks_at c) (queued_ids c k.queue) (results_after (marks_at b) (id_of b n) results) (added popped (id_of b n))
next_painting h f os a b c d e k n results popped same pop at steps =
    let is : id_of a n ≡ id_of b n = sym (id-same a b same.ids (place_in n)) in
    let rest : IsPermutation (queued_ids a d.queue) (id_of b n ∷ queued_ids b e.queue) = subst (λ i. IsPermutation (queued_ids a d.queue) (i ∷ queued_ids b e.queue)) is pop.queue in
    let eq : marks_at a ≡ marks_at b = fun_ext (λ x. sym (pop.marks x)) in
    let here = painting_more h f os (marks_at b) (queued_ids a d.queue) (id_of b n ∷ queued_ids b e.queue) results popped popped
    (λ x. list_any-IsPermutation (same_id x) (queued_ids a d.queue) (id_of b n ∷ queued_ids b e.queue) rest) (λ x i. i)
    (subst (λ y. Painting h f os y (queued_ids a d.queue) results popped) eq at) in
    painting_more h f os (marks_at c) (queued_ids c k.queue) (queued_ids c k.queue) (results_after (marks_at b) (id_of b n) results) (id_of b n ∷ popped) (added popped (id_of b n)) (λ x. refl) (added_one popped (id_of b n))
    (popped_keeps h f os (marks_at b) steps.0 (marks_at c) (id_of b n) (queued_ids b e.queue) (queued_ids c k.queue) results popped here steps.1 steps.2)

-- at the end, where each open commit is stale
module _ (h : History) (f : ObjectId) (os : List ObjectId) (m : ObjectId → MarkSet) (q results popped : List ObjectId)
    (at : Painting h f os m q results popped) (stale : (c : ObjectId) → IsTrue (is_one_of q c) → IsTrue (m c).stale) where
  reaches_one : (c : ObjectId) → IsAncestor h f c → IsTrue (m c).one ⊎ IsAncestorOfOne h os c
  reaches_one c (itself has) = inl (at.first has)
  reaches_one c (further b c' p e) =
      elim (reaches_one b p) as (λ _. IsTrue (m c).one ⊎ IsAncestorOfOne h os c) [
        | inr r ↦ inr (r.0, r.1, further b c r.2 e)
        | inl one ↦ elim (at.settled b) as (λ _. IsTrue (m c).one ⊎ IsAncestorOfOne h os c) [
          | inl k ↦ let r = at.two b (at.both b (stale b k)).1 in inr (r.0, r.1, further b c r.2 e)
          | inr d ↦ inl ((d.gave c e).one one)
        ]
      ]

  reaches_two : (o c : ObjectId) → IsTrue (is_one_of os o) → IsAncestor h o c → IsTrue (m c).two ⊎ IsAncestor h f c
  reaches_two o c o_in (itself has) = inl (at.others o o_in has)
  reaches_two o c o_in (further b c' p e) =
      elim (reaches_two o b o_in p) as (λ _. IsTrue (m c).two ⊎ IsAncestor h f c) [
        | inr r ↦ inr (further b c r e)
        | inl two ↦ elim (at.settled b) as (λ _. IsTrue (m c).two ⊎ IsAncestor h f c) [
          | inl k ↦ inr (further b c (at.one b (at.both b (stale b k)).0) e)
          | inr d ↦ inl ((d.gave c e).two two)
        ]
      ]

  pub has_popped : HasPopped h f os m popped
  has_popped = record {
    one = at.one;
    two = at.two;
    first = λ c reach out.
        let one : IsTrue (m c).one = elim (reaches_one c reach) as (λ _. IsTrue (m c).one) [ inl k ↦ k | inr r ↦ absurd (out r) ] in (
          one,
          elim (at.settled c) as (λ _. IsTrue (is_one_of popped c)) [ inl k ↦ absurd (out (at.two c (at.both c (stale c k)).1)) | inr d ↦ d.was (inl one) ],
        );
    second = λ c reach out.
        let two : IsTrue (m c).two = elim (reaches_two reach.0 c reach.1 reach.2) as (λ _. IsTrue (m c).two) [ inl k ↦ k | inr r ↦ absurd (out r) ] in (
          two,
          elim (at.settled c) as (λ _. IsTrue (is_one_of popped c)) [ inl k ↦ absurd (out (at.one c (at.both c (stale c k)).0)) | inr d ↦ d.was (inr two) ],
        );
  }

not_out : (b : Bool) (P : Type 0) → (IsTrue b → P) → (¬ P) → not b ≡ true
not_out true P f out = absurd (out (f refl))
not_out false P f out = refl

module _ (h : History) (f : ObjectId) (os : List ObjectId) (m : ObjectId → MarkSet) (popped turned : List ObjectId) (did : HasPopped h f os m popped) (same : (c : ObjectId) → is_one_of turned c ≡ is_one_of popped c) where
  pub firsts_cover : CoversSide h (f ∷ []) os (filter (λ c. is_one_alone (m c)) turned)
  firsts_cover = record {
    every = λ c reach out.
        let up : IsAncestor h f c = subst (λ z. IsAncestor h z c) (one_of-single f reach.0 reach.1) reach.2 in
        let r = did.first c up out in
        one_of-filtered (λ x. is_one_alone (m x)) turned c (same c ∙ r.1) (and_pair (m c).one (not (m c).two) r.0 (not_out (m c).two _ (did.two c) out));
    from = λ c k. (f, one_of-head f [], did.one c (and_both _ _ (one_of-filter (λ x. is_one_alone (m x)) turned c k).1).0);
  }

  pub seconds_cover : CoversSide h os (f ∷ []) (filter (λ c. is_two_alone (m c)) turned)
  seconds_cover = record {
    every = λ c reach out.
        let off : ¬ IsAncestor h f c = λ up. out (f, one_of-head f [], up) in
        let r = did.second c reach off in
        one_of-filtered (λ x. is_two_alone (m x)) turned c (same c ∙ r.1) (and_pair (m c).two (not (m c).one) r.0 (not_out (m c).one _ (did.one c) off));
    from = λ c k. did.two c (and_both _ _ (one_of-filter (λ x. is_two_alone (m x)) turned c k).1).0;
  }
