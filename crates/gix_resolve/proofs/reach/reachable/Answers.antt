use Rattle.std.below.core.proofs.iter.Serving.{as_err}
use Rattle.gix_revwalk.specs.History.{IsBeyond}
use Rattle.gix_resolve.proofs.ListSorted.{members-sorted}
use Rattle.gix_resolve.proofs.ReachShown.{sorted-covers}
use Rattle.gix_resolve.proofs.reach.reachable.Goals as goal

pub returns-clause-reached : goal.returns-clause-reached
returns-clause-reached g c never =
    let h = g.S.Find.history c.args.graph.now.source in
    let listed = c.in_ok-ids.ensures.listed in
    let all = members-sorted (IsBeyond h c.args.exclude.now c.args.include.now) c.in_ok-ids.ids.items c.sort_unstable.new.self.items
    (listed.once, λ d. ((λ m. listed.exact never d m), (λ q. listed.every d q))) c.sort_unstable.ensures.permutation c.sort_unstable.ensures.sorted in
    record { beyond = all.0; rising = all.1 }

pub returns-clause-covers : goal.returns-clause-covers
returns-clause-covers g c =
    sorted-covers (g.S.Find.history c.args.graph.now.source) c.args.include.now c.args.exclude.now c.in_ok-ids.ids.items c.sort_unstable.new.self.items
    c.in_ok-ids.ensures.listed c.sort_unstable.ensures.permutation c.sort_unstable.ensures.sorted

pub returns-in_err-ids-clause-reached : goal.returns-in_err-ids-clause-reached
returns-in_err-ids-clause-reached g c = λ never. rw (as_err c.from_residual.ensures.0).1 tt

pub returns-in_err-ids-clause-covers : goal.returns-in_err-ids-clause-covers
returns-in_err-ids-clause-covers g c = rw (as_err c.from_residual.ensures.0).1 tt
