-- After each step, what a walk has met agrees with its marks.
use Rattle.std.proofs.Common.{inl, inr, ◌≡◌, true, false, cond, refl, ap, sym, subst, ◌∙◌, List, [], ◌∷◌, ◌++◌, ◌||◌, ◌<◌, is_some, not, Option, Some, IsTrue, Bool, true≢false}
use Rattle.std.specs.List.{AllByRecursion, IsDistinct}
use Rattle.std.proofs.lemmas.Map.Keys.{IsDistinct-head, IsDistinct-tail, IsDistinct-cons}
use Rattle.gix_base.specs.declared.hash.ObjectId.{ObjectId}
use Rattle.gix_revwalk.specs.History.{is_one_of, same_id}
use Rattle.gix_revwalk.specs.Graph.{Graphed, held_len}
use Rattle.gix_revwalk.specs.Data.{Marks, mark_at}
use Rattle.gix_revwalk.specs.Number.{place_in}
use Rattle.gix_revwalk.specs.Numbers.{Grows}
use Rattle.gix_revwalk.specs.declared.graph.commit.Commit.{Commit}
use Rattle.gix_revwalk.specs.declared.numbers.Mark.{Mark}
use Rattle.gix_revwalk.specs.declared.numbers.Number.{Number}
use Rattle.gix_revwalk.proofs.Ids.{same_id-true, same_id-itself}
use Rattle.gix_revwalk.proofs.Places.{same_id-sym}
use Rattle.gix_revwalk.proofs.Members.{one_of-left, one_of-right, one_of-cases, one_of-single, one_of-head, one_is_distinct}
use Rattle.gix_merge_base.specs.PaintQueue.{id_at, ids_at, marks_at, no_mark}
use Rattle.gix_merge_base.specs.Marks.{MarkSet, marks_of}
use Rattle.gix_merge_base.specs.declared.merge_base.flags.Flags.{Flags}
use Rattle.gix_resolve.specs.ReachSides.{hides}
use Rattle.gix_resolve.specs.ReachWalk.{AreMet}
use Rattle.std.specs.Option.{unwrap_or}
use Rattle.gix_merge_base.proofs.Numbered.{named-id}
use Rattle.gix_merge_base.proofs.Listed.{listed-grown, listed-same, listed-push}

all-push : (P : ObjectId → Type 0) (xs : List ObjectId) (id : ObjectId) → AllByRecursion P xs → P id → AllByRecursion P (xs ++ id ∷ [])
all-push P [] id all p = (p, tt)
all-push P (x ∷ xs) id all p = (all.0, all-push P xs id all.1 p)

pub apart : (a b c : Bool) → (a || b) ≡ false → (a ≡ false) × (b ≡ false)
apart true b c e = absurd (true≢false e)
apart false b c e = (refl, e)

distinct-push : (xs : List ObjectId) (id : ObjectId) → IsDistinct same_id xs → is_one_of xs id ≡ false → IsDistinct same_id (xs ++ id ∷ [])
distinct-push [] id once new = one_is_distinct id
distinct-push (x ∷ xs) id once new =
    let parts = apart (same_id id x) (is_one_of xs id) true new in
    IsDistinct-cons same_id x (xs ++ id ∷ [])
    (all-push (λ y. same_id x y ≡ false) xs id (IsDistinct-head same_id x xs once) (same_id-sym x id ∙ parts.0))
    (distinct-push xs id (IsDistinct-tail same_id x xs once) parts.1)

pub turned : (a b : Bool) → b ≡ not a → a ≡ not b
turned true b e = sym (ap not e)
turned false b e = sym (ap not e)

module _ {S A : Type 0} (both : Bool) (m n : Graphed S (Commit Flags A)) (ns : List Number) (x : Number) (w : Mark Flags) (lt : place_in x < held_len m) (at : AreMet both m ns) (given : Marks m (place_in x) w n) where
  abbrev id : ObjectId
  id = id_at m (place_in x)

  here : (q : ObjectId) → mark_at n q ≡ cond (same_id id q) (Some w) (mark_at m q)
  here q = given.marks id (named-id m (place_in x) lt) q

  off : (q : ObjectId) → same_id id q ≡ false → mark_at n q ≡ mark_at m q
  off q e = here q ∙ ap (λ b. cond b (Some w) (mark_at m q)) e

  on : (q : ObjectId) → same_id id q ≡ true → mark_at n q ≡ Some w
  on q e = here q ∙ ap (λ b. cond b (Some w) (mark_at m q)) e

  abbrev marks_in_mark : Option (Mark Flags) → MarkSet
  marks_in_mark o = marks_of (unwrap_or o no_mark).marks

  stays-marked : (q : ObjectId) → is_some (mark_at m q) ≡ true → is_some (mark_at n q) ≡ true
  stays-marked q k = elim (same_id id q) as (λ b. same_id id q ≡ b → is_some (mark_at n q) ≡ true) [
    | true ↦ λ e. ap is_some (on q e)
    | false ↦ λ e. ap is_some (off q e) ∙ k
  ] refl

  was : (q : ObjectId) → same_id id q ≡ false → is_some (mark_at n q) ≡ true → hides both (marks_at n q) ≡ false → IsTrue (is_one_of (ids_at m ns) q)
  was q e k hid = at.every q (sym (ap is_some (off q e)) ∙ k) (sym (ap (λ o. hides both (marks_in_mark o)) (off q e)) ∙ hid)

  -- a commit gets its first mark, and its number comes to the end
  pub marked-push : is_some (mark_at m id) ≡ false → AreMet both n (ns ++ x ∷ [])
  marked-push new =
      let more = listed-push m ns x id at.inside lt refl in
      let same = listed-same m n given.ids (ns ++ x ∷ []) more.0 in
      let ids : ids_at n (ns ++ x ∷ []) ≡ ids_at m ns ++ id ∷ [] = same.1 ∙ more.1 in
      record {
        inside = same.0;
        marked = λ q k. elim (one_of-cases (ids_at m ns) (id ∷ []) q (subst (λ l. IsTrue (is_one_of l q)) ids k)) as (λ _. is_some (mark_at n q) ≡ true) [
          | inl old ↦ stays-marked q (at.marked q old)
          | inr one ↦ ap is_some (on q (subst (λ z. same_id id z ≡ true) (sym (one_of-single id q one)) (same_id-itself id)))
        ];
        every = λ q k hid. subst (λ l. IsTrue (is_one_of l q)) (sym ids) (elim (same_id id q) as (λ b. same_id id q ≡ b → IsTrue (is_one_of (ids_at m ns ++ id ∷ []) q)) [
          | true ↦ λ e. one_of-right (ids_at m ns) (id ∷ []) q (subst (λ z. IsTrue (is_one_of (id ∷ []) z)) (same_id-true id q e) (one_of-head id []))
          | false ↦ λ e. one_of-left (ids_at m ns) (id ∷ []) q (was q e k hid)
        ] refl);
        once = subst (IsDistinct same_id) (sym ids) (distinct-push (ids_at m ns) id at.once (absent (is_one_of (ids_at m ns) id) refl));
      }
    where
      absent : (b : Bool) → is_one_of (ids_at m ns) id ≡ b → is_one_of (ids_at m ns) id ≡ false
      absent false e = e
      absent true e = absurd (true≢false (sym (at.marked id e) ∙ new))

  -- a commit gets another mark, or one that hides it
  pub marked-again : (hides both (marks_of w.marks) ≡ false → (is_some (mark_at m id) ≡ true) × (hides both (marks_at m id) ≡ false)) → AreMet both n ns
  marked-again had =
      let same = listed-same m n given.ids ns at.inside in
      record {
        inside = same.0;
        marked = λ q k. stays-marked q (at.marked q (subst (λ l. IsTrue (is_one_of l q)) same.1 k));
        every = λ q k hid. subst (λ l. IsTrue (is_one_of l q)) (sym same.1) (elim (same_id id q) as (λ b. same_id id q ≡ b → IsTrue (is_one_of (ids_at m ns) q)) [
          | true ↦ λ e.
              let h = had (sym (ap (λ o. hides both (marks_in_mark o)) (on q e)) ∙ hid) in
              subst (λ z. IsTrue (is_one_of (ids_at m ns) z)) (same_id-true id q e) (at.every id h.0 h.1)
          | false ↦ λ e. was q e k hid
        ] refl);
        once = subst (IsDistinct same_id) (sym same.1) at.once;
      }

  -- whichever it is, of a commit that was not hidden
  pub marked-given : (b : Bool) → b ≡ not (is_some (mark_at m id)) → hides both (marks_at m id) ≡ false → AreMet both n (cond b (ns ++ x ∷ []) ns)
  marked-given true test free = marked-push (turned (is_some (mark_at m id)) true test)
  marked-given false test free = marked-again (λ _. (turned (is_some (mark_at m id)) false test, free))

-- what was met stays so if the graph holds more commits that no walk has marked
pub marked-grown : {S A : Type 0} (both : Bool) (m n : Graphed S (Commit Flags A)) (ns : List Number) → Grows m n → ((q : ObjectId) → mark_at n q ≡ mark_at m q) → AreMet both m ns → AreMet both n ns
marked-grown both m n ns grows same at =
    let grown = listed-grown m n grows ns at.inside in
    record {
      inside = grown.0;
      marked = λ q k. ap is_some (same q) ∙ at.marked q (subst (λ l. IsTrue (is_one_of l q)) grown.1 k);
      every = λ q k hid. subst (λ l. IsTrue (is_one_of l q)) (sym grown.1) (at.every q (sym (ap is_some (same q)) ∙ k) (sym (ap (λ o. hides both (marks_of (unwrap_or o no_mark).marks)) (same q)) ∙ hid));
      once = subst (IsDistinct same_id) (sym grown.1) at.once;
    }
