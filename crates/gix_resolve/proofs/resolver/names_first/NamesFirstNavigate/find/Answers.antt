use Rattle.std.proofs.Common.{refl}
use Rattle.gix_revision.specs.Call.{find}
use Rattle.gix_resolve.proofs.ByNames.{answers_also}
use Rattle.gix_resolve.proofs.resolver.names_first.NamesFirstNavigate.find.Goals as goal

pub returns : goal.returns
returns g c = answers_also g.I.Ids.ids g.S.Find.history g.S.Find.fault_count _ (find c.args.regex.now c.args.negated) _ _ (λ t h s. refl) refl (c.refuse.ensures (find c.args.regex.now c.args.negated) tt)
