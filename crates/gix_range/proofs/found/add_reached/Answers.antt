use Rattle.std.proofs.Common.{◌≡◌, ap, ◌∙◌}
use Rattle.gix_revwalk.specs.Walks.{all_added}
use Rattle.gix_range.proofs.Choosing.{covers_more}
use Rattle.gix_range.proofs.found.add_reached.Goals as goal

pub returns-clause-more : goal.returns-clause-more
returns-clause-more g c ids at =
    let is : c.add_all.new.self ≡ all_added c.args.all.now c.in_ok-found.found.firsts.items = c.in_ok-add_all.ensures ∙ ap (all_added c.args.all.now) c.deref.ensures.value in
    covers_more (g.S.Find.history c.args.graph.now.source) ids c.args.all.now _ _ c.args.id is c.in_ok-found.ensures.firsts at
