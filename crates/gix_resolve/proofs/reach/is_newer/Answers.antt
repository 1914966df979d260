use Rattle.std.proofs.Common.{refl, [], ◌∷◌}
use Rattle.gix_resolve.proofs.ReachTaken.{taken_first, taken_second}
use Rattle.gix_resolve.proofs.reach.is_newer.Goals as goal

pub returns-in_err-time-clause-taken : goal.returns-in_err-time-clause-taken
returns-in_err-time-clause-taken g c =
    taken_first (g.S.Find.history c.args.graph.now.source) (c.args.first ∷ []) (c.args.second ∷ []) c.args.graph.now c.args.graph.now c.time_of.new.graph refl c.time_of.ensures.taken

pub returns-in_err-time_of-clause-taken : goal.returns-in_err-time_of-clause-taken
returns-in_err-time_of-clause-taken g c =
    let h = g.S.Find.history c.args.graph.now.source in
    taken_second h (c.args.first ∷ []) (c.args.second ∷ []) c.args.graph.now c.time_of.new.graph c.time_of-2.new.graph
    (taken_first h (c.args.first ∷ []) (c.args.second ∷ []) c.args.graph.now c.args.graph.now c.time_of.new.graph refl c.time_of.ensures.taken) (rw c.time_of.ensures.after.same_history at c.time_of-2.ensures.taken)

pub returns-clause-taken : goal.returns-clause-taken
returns-clause-taken g c =
    let h = g.S.Find.history c.args.graph.now.source in
    taken_second h (c.args.first ∷ []) (c.args.second ∷ []) c.args.graph.now c.time_of.new.graph c.time_of-2.new.graph
    (taken_first h (c.args.first ∷ []) (c.args.second ∷ []) c.args.graph.now c.args.graph.now c.time_of.new.graph refl c.time_of.ensures.taken) (rw c.time_of.ensures.after.same_history at c.time_of-2.ensures.taken)
