use Rattle.std.proofs.Common.{refl}
use Rattle.gix_revision.specs.Call.{index}
use Rattle.gix_resolve.proofs.ByNames.{answers_also}
use Rattle.gix_resolve.proofs.resolver.names_first.NamesFirstNavigate.index_lookup.Goals as goal

pub returns : goal.returns
returns g c = answers_also g.I.Ids.ids g.S.Find.history g.S.Find.fault_count _ (index c.args.path.now c.args.stage) _ _ (λ t h s. refl) refl (c.refuse.ensures (index c.args.path.now c.args.stage) tt)
