use Rattle.std.proofs.Common.{rules, ◌∙◌, sym}
use Rattle.gix_graph_rows.proofs.SameFiles.{files_of_set, found_in}
use Rattle.gix_graph_rows.proofs.place.search.Goals as goal

pub loop-k-preserved : goal.loop-k-preserved
loop-k-preserved g c = (search rules, files_of_set c.loop-k.layers _ _ _ (search rules) c.find.ensures.same.0 c.find.ensures.same.1 ∙ c.loop-k.invariant.1)

pub returns-in-Some-clause-value : goal.returns-in-Some-clause-value
returns-in-Some-clause-value g c = λ h.
    rw (sym c.loop-k.invariant.1) (found_in c.loop-k.layers _ c.index-layers-layer.result c.args.id (search rules) (rw c.in-Some.is at (c.in_ok-row.ensures.value h)))
