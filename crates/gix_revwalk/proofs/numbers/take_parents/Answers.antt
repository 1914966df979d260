use Rattle.gix_revwalk.proofs.Taken.{grows-same}
use Rattle.std.proofs.lemmas.List.{take_all}
use Rattle.std.proofs.Common.{length, ◌≤◌, arith, refl, inl, ◌∙◌, sym, subst, take, IsTrue, ◌∷◌, []}
use Rattle.gix_revwalk.specs.History.{entry_at, parents_in, is_one_of}
use Rattle.gix_revwalk.specs.Number.{place_in}
use Rattle.gix_revwalk.proofs.Members.{one_of-single}
use Rattle.gix_revwalk.proofs.Growth.{named-there, named-grown, grows-trans, more-trans, one_of-item, take-item}
use Rattle.gix_revwalk.proofs.numbers.take_parents.Goals as goal

pub parent-parent-requires-clause-within : goal.parent-parent-requires-clause-within
parent-parent-requires-clause-within g c =
    let there = named-there c.args.graph.now (place_in c.args.number) c.requires.held in
    (there.0, named-grown c.args.graph.now c.loop-i.graph c.loop-i.invariant.grows _ there.0 there.1, rw (c.loop-i.invariant.history, ← c.parent_count-i-end.ensures there.0 there.1) c.loop-i-test.true)

pub returns-in-Err-clause-more : goal.returns-in-Err-clause-more
returns-in-Err-clause-more g c id is =
    let h = g.S.Find.history c.args.graph.now.source in
    let ps = parents_in (entry_at h id) in
    let item = rw c.loop-i.invariant.history at (c.parent-parent.ensures id (named-grown c.args.graph.now c.loop-i.graph c.loop-i.invariant.grows _ id is)) in
    more-trans h ps ps (c.parent-parent.result ∷ []) c.args.graph.now c.loop-i.graph c.take_parent.new.graph (λ q m. m)
    (λ q m. subst (λ z. IsTrue (is_one_of ps z)) (sym (one_of-single c.parent-parent.result q m)) (one_of-item ps c.loop-i.i c.parent-parent.result item))
    (c.loop-i.invariant.more id is) (rw c.loop-i.invariant.history at c.in-Err.ensures.more)

pub loop-i-preserved : goal.loop-i-preserved
loop-i-preserved g c =
    let h = g.S.Find.history c.args.graph.now.source in
    let inv = c.loop-i.invariant in
    record {
      numbers = λ id is.
          let ps = parents_in (entry_at h id) in
          let item = rw c.loop-i.invariant.history at (c.parent-parent.ensures id (named-grown c.args.graph.now c.loop-i.graph c.loop-i.invariant.grows _ id is)) in
          rw (take-item ps c.loop-i.i c.parent-parent.result item) ((rw c.loop-i.invariant.history at c.in_default.ensures.numbers) (take c.loop-i.i ps) (c.loop-i.invariant.numbers id is));
      grows = grows-trans c.args.graph.now c.loop-i.graph c.take_parent.new.graph c.loop-i.invariant.grows c.in_default.ensures.grows;
      more = λ id is.
          let ps = parents_in (entry_at h id) in
          let item = rw c.loop-i.invariant.history at (c.parent-parent.ensures id (named-grown c.args.graph.now c.loop-i.graph c.loop-i.invariant.grows _ id is)) in
          more-trans h ps ps (c.parent-parent.result ∷ []) c.args.graph.now c.loop-i.graph c.take_parent.new.graph (λ q m. m)
          (λ q m. subst (λ z. IsTrue (is_one_of ps z)) (sym (one_of-single c.parent-parent.result q m)) (one_of-item ps c.loop-i.i c.parent-parent.result item))
          (c.loop-i.invariant.more id is) (rw c.loop-i.invariant.history at c.in_default.ensures.more);
      history = c.in_default.ensures.history ∙ c.loop-i.invariant.history;
      count = c.in_default.ensures.count ∙ c.loop-i.invariant.count;
    }

pub returns-in-Err-clause-grows : goal.returns-in-Err-clause-grows
returns-in-Err-clause-grows g c = grows-trans c.args.graph.now c.loop-i.graph c.take_parent.new.graph c.loop-i.invariant.grows c.take_parent.ensures.grows

pub returns-in-Err-clause-history : goal.returns-in-Err-clause-history
returns-in-Err-clause-history g c = c.take_parent.ensures.history ∙ c.loop-i.invariant.history

pub returns-in-Err-clause-count : goal.returns-in-Err-clause-count
returns-in-Err-clause-count g c = rw c.loop-i.invariant.count at c.in-Err.ensures.count

pub returns-clause-grows : goal.returns-clause-grows
returns-clause-grows g c = c.loop-i.invariant.grows

pub returns-clause-more : goal.returns-clause-more
returns-clause-more g c = c.loop-i.invariant.more

pub returns-clause-history : goal.returns-clause-history
returns-clause-history g c = c.loop-i.invariant.history

pub returns-clause-count : goal.returns-clause-count
returns-clause-count g c = c.loop-i.invariant.count

pub loop-i-init : goal.loop-i-init
loop-i-init g c = record {
  numbers = λ id is. rw c.requires.empty refl;
  grows = grows-same c.args.graph.now c.args.graph.now refl refl;
  more = λ id is q there. inl there;
  history = refl;
  count = refl;
}

pub returns-clause-numbers : goal.returns-clause-numbers
returns-clause-numbers g c id is =
    let ps = parents_in (entry_at (g.S.Find.history c.args.graph.now.source) id) in
    let le : length ps ≤ c.loop-i.i = omega (arith, c.parent_count-i-end.ensures id is) in
    rw (take_all c.loop-i.i ps le) at (c.loop-i.invariant.numbers id is)
