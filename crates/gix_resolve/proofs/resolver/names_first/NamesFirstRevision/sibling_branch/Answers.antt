use Rattle.std.proofs.Common.{refl}
use Rattle.gix_revision.specs.Call.{sibling}
use Rattle.gix_resolve.proofs.ByNames.{answers_also}
use Rattle.gix_resolve.proofs.resolver.names_first.NamesFirstRevision.sibling_branch.Goals as goal

pub returns : goal.returns
returns g c = answers_also g.I.Ids.ids g.S.Find.history g.S.Find.fault_count _ (sibling c.args.kind) _ _ (λ t h s. refl) refl (c.refuse.ensures (sibling c.args.kind) tt)
