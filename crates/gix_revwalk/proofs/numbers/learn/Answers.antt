use Rattle.std.proofs.Common.{rules, w64, ap, sym, is_some}
use Rattle.std.specs.Int.RustNames.{FitsSigned as SFits}
use Rattle.std.proofs.lemmas.Int.{to_z-of_z}
use Rattle.gix_revwalk.specs.History.{parents_in, time_in}
use Rattle.gix_revwalk.specs.Pasts.{Told, told_in}
use Rattle.gix_revwalk.proofs.NodeSteps.{nodes-past, told-learned}
use Rattle.gix_revwalk.proofs.numbers.learn.Goals as goal

pub invariant_of-graph : goal.invariant_of-graph
invariant_of-graph g c =
    let past = c.graph.inside.past in
    let req = rw (← c.graph.view_is) at c.requires in
    let small : SFits w64 c.args.found.now.time = search rules in
    let tells : Told = record { time = c.args.found.now.time; parents = c.args.found.now.parents.items } in
    let told = rw (to_z-of_z w64 c.args.found.now.time small, c.deref.ensures.value) at c.learn.ensures.told in (
      c.graph.invariant.0,
      nodes-past _ _ past c.learn.new.self _ _ c.graph.invariant.1 c.learn.ensures.homes
          (told-learned c.learn.result _ c.args.id tells (told_in past) (told_in c.learn.new.self) (ap is_some req, sym (ap time_in req), sym (ap parents_in req)) c.graph.invariant.1.told told c.learn.ensures.refused),
    )

pub returns : goal.returns
returns g c = c.graph.view_is
