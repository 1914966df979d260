use Rattle.std.proofs.Common.{sym, subst}
use Rattle.gix_revwalk.specs.History.{IsBeyond}
use Rattle.gix_revwalk.specs.Sizes.{Lists}
use Rattle.gix_range.specs.Ranges.{Covers, Keeps}
use Rattle.gix_range.proofs.Choosing.{kept_lists, kept_covers}
use Rattle.gix_range.proofs.range.beyond.Goals as goal

pub returns-clause-reached : goal.returns-clause-reached
returns-clause-reached g c acyclic =
    let h = g.S.Find.history c.args.graph.now.source in
    let keeps = rw c.in_ok-candidates.ensures.after.graph.same_history at c.in_ok-kept.ensures.keeps in
    subst (λ l. Lists l (IsBeyond h c.args.exclude.now c.args.include.now)) (sym c.into_vec.ensures)
    (kept_lists h c.args.include.now c.args.exclude.now _ c.in_ok-kept.kept c.in_ok-candidates.ensures.covers (subst (λ l. Keeps h l c.args.exclude.now c.in_ok-kept.kept) c.deref.ensures.value keeps) acyclic)

pub returns-clause-covers : goal.returns-clause-covers
returns-clause-covers g c =
    let h = g.S.Find.history c.args.graph.now.source in
    let keeps = rw c.in_ok-candidates.ensures.after.graph.same_history at c.in_ok-kept.ensures.keeps in
    subst (Covers h c.args.include.now c.args.exclude.now) (sym c.into_vec.ensures)
    (kept_covers h c.args.include.now c.args.exclude.now _ c.in_ok-kept.kept c.in_ok-candidates.ensures.covers (subst (λ l. Keeps h l c.args.exclude.now c.in_ok-kept.kept) c.deref.ensures.value keeps))
