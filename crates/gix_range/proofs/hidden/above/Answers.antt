use Rattle.std.proofs.Common.{ap, ◌∙◌, ◌∷◌, []}
use Rattle.gix_revwalk.specs.Walks.{all_added}
use Rattle.gix_range.proofs.Hiding.{covers_added}
use Rattle.gix_range.proofs.hidden.above.Goals as goal

pub returns-clause-covers : goal.returns-clause-covers
returns-clause-covers g c =
    covers_added (g.S.Find.history c.args.graph.now.source) c.args.exclude.now (c.args.below ∷ []) _ c.add_all.new.self
    (c.in_ok-add_all.ensures ∙ ap (λ z. all_added z c.deref.result.now) c.new-hidden.ensures ∙ ap (all_added []) c.deref.ensures.value) c.in_ok-found.ensures.seconds
