use Rattle.std.proofs.Common.{rules}
use Rattle.gix_graph_rows.proofs.SameFiles.{found_in, placed}
use Rattle.gix_graph_rows.proofs.commit.add_parent.Goals as goal

pub returns-in_err-push-in-Some-clause-kept : goal.returns-in_err-push-in-Some-clause-kept
returns-in_err-push-in-Some-clause-kept g c = λ k h.
    let there = placed c.args.layers.now c.args.position c.in-Some.place.layer c.in-Some.place.row c.index-layers-place.result c.in-Some.ensures.place in
    c.note.ensures _ h (found_in _ c.in-Some.place c.index-layers-place.result _ c.in-Some.ensures.within
    (record { below = there.below; same = search rules }))

pub returns-in_ok-push-in-Some-clause-kept : goal.returns-in_ok-push-in-Some-clause-kept
returns-in_ok-push-in-Some-clause-kept g c = λ k h.
    let there = placed c.args.layers.now c.args.position c.in-Some.place.layer c.in-Some.place.row c.index-layers-place.result c.in-Some.ensures.place in
    c.note.ensures _ h (found_in _ c.in-Some.place c.index-layers-place.result _ c.in-Some.ensures.within
    (record { below = there.below; same = search rules }))

pub returns-in_ok-push-in-Some-clause-value : goal.returns-in_ok-push-in-Some-clause-value
returns-in_ok-push-in-Some-clause-value g c = λ k.
    let there = placed c.args.layers.now c.args.position c.in-Some.place.layer c.in-Some.place.row c.index-layers-place.result c.in-Some.ensures.place in
    rw (← there.same) (search rules)
