use Rattle.std.below.core.proofs.iter.Serving.{as_err}
use Rattle.std.proofs.Common.{◌≡◌, sym, ap, subst, ◌∙◌, length, drop, arith}
use Rattle.std.proofs.lemmas.List.{length-map, length-append}
use Rattle.gix_revwalk.specs.History.{IsAncestorOfOne}
use Rattle.gix_revwalk.specs.Sizes.{Lists}
use Rattle.gix_revwalk.specs.Number.{place_in}
use Rattle.gix_revwalk.specs.declared.numbers.Number.{Number}
use Rattle.gix_merge_base.specs.PaintQueue.{id_at, ids_at}
use Rattle.gix_resolve.specs.ListWalk.{AreClosed}
use Rattle.gix_resolve.proofs.ListMarks.{numbers-held, numbers-then}
use Rattle.gix_resolve.proofs.ListWalks.{closed_none, lists_beyond}
use Rattle.gix_resolve.proofs.ListTaken.{only_hidden, only_shown}
use Rattle.gix_resolve.proofs.list.walk.list_beyond.Goals as goal

pub list_all_ancestors-requires-clause-closed : goal.list_all_ancestors-requires-clause-closed
list_all_ancestors-requires-clause-closed g c = subst (λ l. AreClosed (g.S.Find.history c.begin_walk.new.graph.source) (ids_at c.begin_walk.new.graph l)) (sym c.new-numbers.ensures.items) (closed_none _)

pub returns-clause-inside : goal.returns-clause-inside
returns-clause-inside g c =
    let mid = c.list_all_ancestors.new.graph in
    let new = c.list_all_ancestors-2.new.graph in
    let xs = ids_at mid c.list_all_ancestors.new.listed.items in
    let second = rw (c.list_all_ancestors.ensures.after.same_history) at c.in_ok-list_all_ancestors-2.ensures.adds in
    let len = length-map c.list_all_ancestors.new.listed.items (λ (k : Number). id_at mid (place_in k)) in
    let all = length-map c.list_all_ancestors-2.new.listed.items (λ (k : Number). id_at new (place_in k)) in
    let both = ap length second.1 ∙ length-append xs second.0 in
    (c.in_ok-list_all_ancestors-2.ensures.marked.inside, omega (arith, c.len-hidden.ensures, len, all, both))

pub returns-clause-beyond : goal.returns-clause-beyond
returns-clause-beyond g c =
    let h = g.S.Find.history c.args.graph.now.source in
    let begun = c.begin_walk.new.graph in
    let mid = c.list_all_ancestors.new.graph in
    let new = c.list_all_ancestors-2.new.graph in
    let xs = ids_at mid c.list_all_ancestors.new.listed.items in
    let ys = ids_at new c.list_all_ancestors-2.new.listed.items in
    let same : g.S.Find.history begun.source ≡ h = ap g.S.Find.history c.begin_walk.ensures.source in
    let first = rw (same, c.new-numbers.ensures.items) at c.in_ok-list_all_ancestors.ensures.adds in
    let same_mid : g.S.Find.history mid.source ≡ h = c.list_all_ancestors.ensures.after.same_history ∙ same in
    let second = rw same_mid at c.in_ok-list_all_ancestors-2.ensures.adds in
    let closed = rw same_mid at c.in_ok-list_all_ancestors-2.ensures.closed in
    let len = length-map c.list_all_ancestors.new.listed.items (λ (k : Number). id_at mid (place_in k)) in
    let at : c.len-hidden.result ≡ length xs = omega (arith, c.len-hidden.ensures, len) in
    subst (λ i. Lists (drop i ys) (λ q. IsAncestorOfOne h c.args.shown.now q × (¬ IsAncestorOfOne h c.args.hidden.now q))) (sym at)
    (lists_beyond h c.args.hidden.now c.args.shown.now xs ys first second closed)

pub returns-in_err-list_all_ancestors-clause-taken : goal.returns-in_err-list_all_ancestors-clause-taken
returns-in_err-list_all_ancestors-clause-taken g c =
    let h = g.S.Find.history c.args.graph.now.source in
    let same : g.S.Find.history c.begin_walk.new.graph.source ≡ h = ap g.S.Find.history c.begin_walk.ensures.source in
    only_hidden h c.args.hidden.now c.args.shown.now c.args.graph.now c.begin_walk.new.graph c.list_all_ancestors.new.graph c.begin_walk.ensures.held (rw (same, c.new-numbers.ensures.items) at c.list_all_ancestors.ensures.taken)

pub returns-in_err-list_all_ancestors-2-clause-taken : goal.returns-in_err-list_all_ancestors-2-clause-taken
returns-in_err-list_all_ancestors-2-clause-taken g c =
    let h = g.S.Find.history c.args.graph.now.source in
    let xs = ids_at c.list_all_ancestors.new.graph c.list_all_ancestors.new.listed.items in
    let same : g.S.Find.history c.begin_walk.new.graph.source ≡ h = ap g.S.Find.history c.begin_walk.ensures.source in
    let same_mid : g.S.Find.history c.list_all_ancestors.new.graph.source ≡ h = c.list_all_ancestors.ensures.after.same_history ∙ same in
    only_shown h c.args.hidden.now c.args.shown.now xs c.args.graph.now c.begin_walk.new.graph c.list_all_ancestors.new.graph c.list_all_ancestors-2.new.graph c.begin_walk.ensures.held
    (rw (same, c.new-numbers.ensures.items) at c.list_all_ancestors.ensures.taken) (rw (same, c.new-numbers.ensures.items) at c.in_ok-list_all_ancestors.ensures.adds) (rw same_mid at c.list_all_ancestors-2.ensures.taken)

pub returns-clause-taken : goal.returns-clause-taken
returns-clause-taken g c =
    let h = g.S.Find.history c.args.graph.now.source in
    let xs = ids_at c.list_all_ancestors.new.graph c.list_all_ancestors.new.listed.items in
    let same : g.S.Find.history c.begin_walk.new.graph.source ≡ h = ap g.S.Find.history c.begin_walk.ensures.source in
    let same_mid : g.S.Find.history c.list_all_ancestors.new.graph.source ≡ h = c.list_all_ancestors.ensures.after.same_history ∙ same in
    only_shown h c.args.hidden.now c.args.shown.now xs c.args.graph.now c.begin_walk.new.graph c.list_all_ancestors.new.graph c.list_all_ancestors-2.new.graph c.begin_walk.ensures.held
    (rw (same, c.new-numbers.ensures.items) at c.list_all_ancestors.ensures.taken) (rw (same, c.new-numbers.ensures.items) at c.in_ok-list_all_ancestors.ensures.adds) (rw same_mid at c.list_all_ancestors-2.ensures.taken)

pub returns-clause-numbers : goal.returns-clause-numbers
returns-clause-numbers g c =
    let begun = c.begin_walk.new.graph in
    let mid = c.list_all_ancestors.new.graph in
    let new = c.list_all_ancestors-2.new.graph in
    numbers-then c.args.graph.now begun new (numbers-held c.args.graph.now begun c.begin_walk.ensures.held)
    (numbers-then begun mid new c.in_ok-list_all_ancestors.ensures.numbers c.in_ok-list_all_ancestors-2.ensures.numbers)

pub returns-in_err-list_all_ancestors-clause-inside : goal.returns-in_err-list_all_ancestors-clause-inside
returns-in_err-list_all_ancestors-clause-inside g c = rw (as_err c.from_residual.ensures.0).1 tt

pub returns-in_err-list_all_ancestors-clause-beyond : goal.returns-in_err-list_all_ancestors-clause-beyond
returns-in_err-list_all_ancestors-clause-beyond g c = rw (as_err c.from_residual.ensures.0).1 tt

pub returns-in_err-list_all_ancestors-clause-numbers : goal.returns-in_err-list_all_ancestors-clause-numbers
returns-in_err-list_all_ancestors-clause-numbers g c = rw (as_err c.from_residual.ensures.0).1 tt

pub returns-in_err-list_all_ancestors-2-clause-inside : goal.returns-in_err-list_all_ancestors-2-clause-inside
returns-in_err-list_all_ancestors-2-clause-inside g c = rw (as_err c.from_residual-in_err-list_all_ancestors-2.ensures.0).1 tt

pub returns-in_err-list_all_ancestors-2-clause-beyond : goal.returns-in_err-list_all_ancestors-2-clause-beyond
returns-in_err-list_all_ancestors-2-clause-beyond g c = rw (as_err c.from_residual-in_err-list_all_ancestors-2.ensures.0).1 tt

pub returns-in_err-list_all_ancestors-2-clause-numbers : goal.returns-in_err-list_all_ancestors-2-clause-numbers
returns-in_err-list_all_ancestors-2-clause-numbers g c = rw (as_err c.from_residual-in_err-list_all_ancestors-2.ensures.0).1 tt
