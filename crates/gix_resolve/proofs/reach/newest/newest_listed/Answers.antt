use Rattle.std.below.core.proofs.iter.Serving.{as_err}
use Rattle.std.proofs.Common.{sym, subst}
use Rattle.std.specs.List.Sorted.{IsPermutation}
use Rattle.gix_merge_base.specs.PaintQueue.{ids_at, AreIn}
use Rattle.gix_resolve.proofs.Newest.{in_order}
use Rattle.gix_resolve.proofs.ReachNewest.{first_permuted}
use Rattle.gix_resolve.proofs.reach.newest.newest_listed.Goals as goal

pub newest_of-requires : goal.newest_of-requires
newest_of-requires g c = subst (AreIn c.firsts.new.graph) (sym c.deref.ensures.value) c.in_ok-numbers.ensures.inside

pub returns-clause-listed : goal.returns-clause-listed
returns-clause-listed g c =
    let new = c.firsts.new.graph in
    let found = c.in_ok-newest_of.field-0.items in
    let perm = subst (λ l. IsPermutation (ids_at new l) found) c.deref.ensures.value c.in_ok-newest_of.ensures.same in
    first_permuted (g.S.Find.history c.args.graph.now.source) c.args.first.now c.args.second.now (ids_at new c.in_ok-numbers.numbers.items) found perm c.in_ok-numbers.ensures.listed

pub returns-clause-order : goal.returns-clause-order
returns-clause-order g c =
    let h = g.S.Find.history c.args.graph.now.source in
    let all = returns-clause-listed g c in
    in_order h c.in_ok-newest_of.field-0.items all.once (rw c.firsts.ensures.after.same_history at c.in_ok-newest_of.ensures.order)

pub returns-in_err-numbers-clause-listed : goal.returns-in_err-numbers-clause-listed
returns-in_err-numbers-clause-listed g c = rw (as_err c.from_residual.ensures.0).1 tt

pub returns-in_err-numbers-clause-order : goal.returns-in_err-numbers-clause-order
returns-in_err-numbers-clause-order g c = rw (as_err c.from_residual.ensures.0).1 tt

pub returns-in_err-numbers-clause-taken : goal.returns-in_err-numbers-clause-taken
returns-in_err-numbers-clause-taken g c = c.firsts.ensures.taken

pub returns-in_err-newest_of-clause-listed : goal.returns-in_err-newest_of-clause-listed
returns-in_err-newest_of-clause-listed g c = rw (as_err c.from_residual-in_err-newest_of.ensures.0).1 tt

pub returns-in_err-newest_of-clause-order : goal.returns-in_err-newest_of-clause-order
returns-in_err-newest_of-clause-order g c = rw (as_err c.from_residual-in_err-newest_of.ensures.0).1 tt

pub returns-clause-taken : goal.returns-clause-taken
returns-clause-taken g c = c.firsts.ensures.taken
