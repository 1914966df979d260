use Rattle.std.proofs.Common.{refl}
use Rattle.gix_revision.specs.Call.{reflog}
use Rattle.gix_resolve.proofs.ByNames.{answers_also}
use Rattle.gix_resolve.proofs.resolver.names_first.NamesFirstRevision.reflog.Goals as goal

pub returns : goal.returns
returns g c = answers_also g.I.Ids.ids g.S.Find.history g.S.Find.fault_count _ (reflog c.args.query) _ _ (λ t h s. refl) refl (c.refuse.ensures (reflog c.args.query) tt)
