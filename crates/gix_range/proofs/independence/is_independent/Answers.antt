use Rattle.std.proofs.Common.{◌∙◌}
use Rattle.gix_range.proofs.Frees.{free_alone, free_by}
use Rattle.gix_range.proofs.independence.is_independent.Goals as goal

pub returns-then-has_none-clause-exact : goal.returns-then-has_none-clause-exact
returns-then-has_none-clause-exact g c acyclic =
    free_alone (g.S.Find.history c.args.graph.now.source) c.args.ids.now c.args.id c.requires c.as_slice-rest.result.now (c.as_slice-rest.ensures.value ∙ c.in_ok-others.ensures) c.has_none.result c.has_none.ensures c.if-has_none.true

pub returns-clause-exact : goal.returns-clause-exact
returns-clause-exact g c acyclic =
    free_by (g.S.Find.history c.args.graph.now.source) c.args.ids.now c.args.id c.requires c.as_slice-rest.result.now (c.as_slice-rest.ensures.value ∙ c.in_ok-others.ensures) acyclic c.in_ok-reached.reached c.in_ok-reached.ensures.exact
