use Rattle.std.proofs.Common.{refl}
use Rattle.gix_revision.specs.Call.{branch}
use Rattle.gix_resolve.proofs.ByNames.{answers_also}
use Rattle.gix_resolve.proofs.resolver.names_first.NamesFirstRevision.nth_checked_out_branch.Goals as goal

pub returns : goal.returns
returns g c = answers_also g.I.Ids.ids g.S.Find.history g.S.Find.fault_count _ (branch c.args.branch_no) _ _ (λ t h s. refl) refl (c.refuse.ensures (branch c.args.branch_no) tt)
