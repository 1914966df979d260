use Rattle.std.below.core.proofs.iter.Serving.{as_err}
use Rattle.std.proofs.Common.{◌∷◌, ◌++◌, [], ap, ◌∙◌, length, arith}
use Rattle.std.proofs.lemmas.List.{length-map, take_all}
use Rattle.gix_revwalk.specs.Number.{place_in}
use Rattle.gix_revwalk.specs.declared.numbers.Number.{Number}
use Rattle.gix_revwalk.proofs.Walk.{fewer_left, walk_bounded}
use Rattle.gix_merge_base.specs.PaintQueue.{id_at, ids_at}
use Rattle.gix_resolve.proofs.ListWalks.{adding_begins, adding_goes, adding_ends}
use Rattle.gix_resolve.proofs.ListAfter.{after_then}
use Rattle.gix_resolve.proofs.ListMarks.{numbers-then}
use Rattle.gix_resolve.proofs.ListTaken.{only_start, only_goes}
use Rattle.gix_resolve.proofs.list.walk.list_ancestors.Goals as goal

pub loop-i-init : goal.loop-i-init
loop-i-init g c =
    let h = g.S.Find.history c.args.graph.now.source in
    let xs = ids_at c.args.graph.now c.args.listed.now.items in
    let len = length-map c.args.listed.now.items (λ (k : Number). id_at c.args.graph.now (place_in k)) in
    record {
      marked = c.in_ok-list_id.ensures.marked;
      adding = adding_begins h c.args.id xs (ids_at c.list_id.new.graph c.list_id.new.listed.items) c.len-i.result c.requires.closed c.in_ok-list_id.ensures.visited (omega (arith, c.len-i.ensures, len));
      numbers = c.in_ok-list_id.ensures.numbers;
      after = c.in_ok-list_id.ensures.after;
      taken = only_start h xs c.args.id c.args.graph.now c.list_id.new.graph c.list_id.ensures.taken;
    }

pub loop-i-smaller : goal.loop-i-smaller
loop-i-smaller g c =
    let same = c.loop-i.invariant.after.same_history in
    let ids = ids_at c.loop-i.graph c.loop-i.listed.items in
    let len = length-map c.loop-i.listed.items (λ (k : Number). id_at c.loop-i.graph (place_in k)) in
    let few = walk_bounded _ (ids_at c.args.graph.now c.args.listed.now.items ++ c.args.id ∷ []) ids c.loop-i.i c.loop-i.invariant.adding.walked in
    fewer_left _ _ _ c.loop-i.i (length c.loop-i.listed.items) (ap length same) (ap length (c.list_parents.ensures.after.same_history ∙ same)) (omega arith) (omega arith)

pub loop-i-preserved : goal.loop-i-preserved
loop-i-preserved g c =
    let h = g.S.Find.history c.args.graph.now.source in
    let xs = ids_at c.args.graph.now c.args.listed.now.items in
    let visited = rw c.loop-i.invariant.after.same_history at c.in_ok-list_parents.ensures.visited in
    record {
      marked = c.in_ok-list_parents.ensures.marked;
      adding = adding_goes h c.args.id xs c.loop-i.graph c.loop-i.listed.items c.loop-i.i c.index-next.result.now (ids_at c.list_parents.new.graph c.list_parents.new.listed.items) c.loop-i.invariant.adding (omega arith) c.index-next.ensures visited;
      numbers = numbers-then c.args.graph.now c.loop-i.graph c.list_parents.new.graph c.loop-i.invariant.numbers c.in_ok-list_parents.ensures.numbers;
      after = after_then c.args.graph.now c.loop-i.graph c.list_parents.new.graph _ c.loop-i.invariant.after c.in_ok-list_parents.ensures.after;
      taken = only_goes h c.args.id xs c.args.graph.now c.loop-i.graph c.loop-i.listed.items c.loop-i.i c.index-next.result.now c.list_parents.new.graph c.loop-i.invariant.adding (omega arith) c.index-next.ensures
          c.loop-i.invariant.taken (rw c.loop-i.invariant.after.same_history at c.list_parents.ensures.taken);
    }

pub returns-clause-closed : goal.returns-clause-closed
returns-clause-closed g c =
    let ids = ids_at c.loop-i.graph c.loop-i.listed.items in
    let len = length-map c.loop-i.listed.items (λ (k : Number). id_at c.loop-i.graph (place_in k)) in
    (adding_ends _ c.args.id (ids_at c.args.graph.now c.args.listed.now.items) ids c.loop-i.i c.requires.closed c.loop-i.invariant.adding (take_all c.loop-i.i ids (omega arith))).0

pub returns-clause-adds : goal.returns-clause-adds
returns-clause-adds g c =
    let ids = ids_at c.loop-i.graph c.loop-i.listed.items in
    let len = length-map c.loop-i.listed.items (λ (k : Number). id_at c.loop-i.graph (place_in k)) in
    (adding_ends _ c.args.id (ids_at c.args.graph.now c.args.listed.now.items) ids c.loop-i.i c.requires.closed c.loop-i.invariant.adding (take_all c.loop-i.i ids (omega arith))).1

pub returns-in_err-list_id-clause-taken : goal.returns-in_err-list_id-clause-taken
returns-in_err-list_id-clause-taken g c = only_start _ (ids_at c.args.graph.now c.args.listed.now.items) c.args.id c.args.graph.now c.list_id.new.graph c.list_id.ensures.taken

pub returns-in_err-list_parents-clause-taken : goal.returns-in_err-list_parents-clause-taken
returns-in_err-list_parents-clause-taken g c =
    let h = g.S.Find.history c.args.graph.now.source in
    let xs = ids_at c.args.graph.now c.args.listed.now.items in
    only_goes h c.args.id xs c.args.graph.now c.loop-i.graph c.loop-i.listed.items c.loop-i.i c.index-next.result.now c.list_parents.new.graph c.loop-i.invariant.adding (omega arith) c.index-next.ensures
    c.loop-i.invariant.taken (rw c.loop-i.invariant.after.same_history at c.list_parents.ensures.taken)

pub returns-clause-marked : goal.returns-clause-marked
returns-clause-marked g c = c.loop-i.invariant.marked

pub returns-clause-numbers : goal.returns-clause-numbers
returns-clause-numbers g c = c.loop-i.invariant.numbers

pub returns-clause-taken : goal.returns-clause-taken
returns-clause-taken g c = c.loop-i.invariant.taken

pub returns-clause-after : goal.returns-clause-after
returns-clause-after g c = c.loop-i.invariant.after

pub list_id-requires : goal.list_id-requires
list_id-requires g c = c.requires.marked

pub list_parents-requires-clause-marked : goal.list_parents-requires-clause-marked
list_parents-requires-clause-marked g c = c.loop-i.invariant.marked

pub returns-in_err-list_id-clause-marked : goal.returns-in_err-list_id-clause-marked
returns-in_err-list_id-clause-marked g c = rw (as_err c.from_residual.ensures.0).1 tt

pub returns-in_err-list_id-clause-closed : goal.returns-in_err-list_id-clause-closed
returns-in_err-list_id-clause-closed g c = rw (as_err c.from_residual.ensures.0).1 tt

pub returns-in_err-list_id-clause-adds : goal.returns-in_err-list_id-clause-adds
returns-in_err-list_id-clause-adds g c = rw (as_err c.from_residual.ensures.0).1 tt

pub returns-in_err-list_id-clause-numbers : goal.returns-in_err-list_id-clause-numbers
returns-in_err-list_id-clause-numbers g c = rw (as_err c.from_residual.ensures.0).1 tt

pub returns-in_err-list_parents-clause-marked : goal.returns-in_err-list_parents-clause-marked
returns-in_err-list_parents-clause-marked g c = rw (as_err c.from_residual-in_err-list_parents.ensures.0).1 tt

pub returns-in_err-list_parents-clause-closed : goal.returns-in_err-list_parents-clause-closed
returns-in_err-list_parents-clause-closed g c = rw (as_err c.from_residual-in_err-list_parents.ensures.0).1 tt

pub returns-in_err-list_parents-clause-adds : goal.returns-in_err-list_parents-clause-adds
returns-in_err-list_parents-clause-adds g c = rw (as_err c.from_residual-in_err-list_parents.ensures.0).1 tt

pub returns-in_err-list_parents-clause-numbers : goal.returns-in_err-list_parents-clause-numbers
returns-in_err-list_parents-clause-numbers g c = rw (as_err c.from_residual-in_err-list_parents.ensures.0).1 tt
