use Rattle.std.proofs.Common.{◌≡◌, [], ◌∷◌, arith}
use Rattle.gix_merge_base.proofs.Sorting.{few_in_order}
use Rattle.gix_merge_base.proofs.Loads.{met_of_loads}
use Rattle.gix_merge_base.proofs.merge_base.heads.octopus_bases.Goals as goal

pub returns-then-all_are-clause-order : goal.returns-then-all_are-clause-order
returns-then-all_are-clause-order g c =
    let items : c.in_ok-alone.alone.items ≡ c.args.first ∷ [] = c.in_ok-alone.ensures.items_if_clones_equal (λ x y same. same) in
    rw items (few_in_order (g.S.Find.history c.args.graph.now.source) (c.args.first ∷ []) (omega arith))

pub returns-clause-bases : goal.returns-clause-bases
returns-clause-bases g c acyclic differ = c.bases_of_heads.ensures.bases acyclic

pub returns-clause-order : goal.returns-clause-order
returns-clause-order g c = c.bases_of_heads.ensures.order

pub returns-clause-reached : goal.returns-clause-reached
returns-clause-reached g c = met_of_loads c.bases_of_heads.ensures.loads

pub returns-clause-history : goal.returns-clause-history
returns-clause-history g c = c.bases_of_heads.ensures.after.graph.same_history

pub returns-clause-count : goal.returns-clause-count
returns-clause-count g c = c.bases_of_heads.ensures.after.graph.count

pub returns-clause-held : goal.returns-clause-held
returns-clause-held g c = c.bases_of_heads.ensures.after.graph.held

pub returns-clause-cause : goal.returns-clause-cause
returns-clause-cause g c = c.bases_of_heads.ensures.after.cause
