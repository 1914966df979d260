use Rattle.std.proofs.Common.{sym, subst}
use Rattle.gix_range.specs.Ranges.{Hides}
use Rattle.gix_range.proofs.range.kept_of.Goals as goal

pub keep_all-requires : goal.keep_all-requires
keep_all-requires g c = subst (λ h. Hides h c.args.candidates.now c.args.exclude.now c.in_ok-hidden.hidden) (sym c.in_ok-hidden.ensures.after.graph.same_history) c.in_ok-hidden.ensures.hides

pub returns-clause-keeps : goal.returns-clause-keeps
returns-clause-keeps g c = rw c.in_ok-hidden.ensures.after.graph.same_history at c.in_ok-kept.ensures
