use Rattle.std.below.core.proofs.iter.Serving.{as_err}
use Rattle.std.proofs.Common.{◌≡◌, ◌+◌, sym, subst}
use Rattle.gix_revwalk.specs.Sizes.{HasSize}
use Rattle.gix_revwalk.proofs.GraphAfters.{graph_as}
use Rattle.gix_spec.specs.declared.spec.Spec.TheVariants.{Merge}
use Rattle.gix_resolve.specs.ListMeaning.{IsMeant}
use Rattle.gix_resolve.proofs.ListAfter.{after_then, after_ok}
use Rattle.gix_resolve.proofs.ListMembers.{if-ok}
use Rattle.gix_resolve.proofs.ListCounts.{size-merge}
use Rattle.gix_resolve.proofs.ListTaken.{only_swapped, only_either}
use Rattle.gix_resolve.proofs.list.count.count_of_just_one.Goals as goal

pub returns-clause-size : goal.returns-clause-size
returns-clause-size g c =
    let h = g.S.Find.history c.args.graph.now.source in
    let right = rw c.count_beyond.ensures.after.same_history at c.in_ok-of_ours.ensures.size in
    let both = size-merge h c.args.theirs c.args.ours c.in_ok-of_theirs.of_theirs c.in_ok-of_ours.of_ours c.in_ok-of_theirs.ensures.size right in
    if-ok c.sum.result (λ n. n ≡ c.in_ok-of_theirs.of_theirs + c.in_ok-of_ours.of_ours) (HasSize (IsMeant h (Merge c.args.theirs c.args.ours)))
    (λ n is. subst (HasSize (IsMeant h (Merge c.args.theirs c.args.ours))) (sym is) both) c.sum.ensures.sum

pub returns-clause-after : goal.returns-clause-after
returns-clause-after g c =
    let mid = c.count_beyond.new.graph in
    let new = c.count_beyond-2.new.graph in
    after_then c.args.graph.now mid new c.sum.result (after_ok c.args.graph.now mid _ c.in_ok-of_theirs.ensures.after) (graph_as mid new _ c.sum.result (sym c.sum.ensures.fault) c.in_ok-of_ours.ensures.after)

pub returns-in_err-of_theirs-clause-taken : goal.returns-in_err-of_theirs-clause-taken
returns-in_err-of_theirs-clause-taken g c =
    only_swapped (g.S.Find.history c.args.graph.now.source) c.args.theirs c.args.ours c.args.graph.now c.count_beyond.new.graph c.count_beyond.ensures.taken

pub returns-in_err-of_ours-clause-taken : goal.returns-in_err-of_ours-clause-taken
returns-in_err-of_ours-clause-taken g c =
    only_either (g.S.Find.history c.args.graph.now.source) c.args.theirs c.args.ours c.args.graph.now c.count_beyond.new.graph c.count_beyond-2.new.graph c.count_beyond.ensures.taken
    (rw c.count_beyond.ensures.after.same_history at c.count_beyond-2.ensures.taken)

pub returns-clause-taken : goal.returns-clause-taken
returns-clause-taken g c =
    only_either (g.S.Find.history c.args.graph.now.source) c.args.theirs c.args.ours c.args.graph.now c.count_beyond.new.graph c.count_beyond-2.new.graph c.count_beyond.ensures.taken
    (rw c.count_beyond.ensures.after.same_history at c.count_beyond-2.ensures.taken)

pub returns-in_err-of_theirs-clause-size : goal.returns-in_err-of_theirs-clause-size
returns-in_err-of_theirs-clause-size g c = rw (as_err c.from_residual.ensures.0).1 tt

pub returns-in_err-of_ours-clause-size : goal.returns-in_err-of_ours-clause-size
returns-in_err-of_ours-clause-size g c = rw (as_err c.from_residual-in_err-of_ours.ensures.0).1 tt
