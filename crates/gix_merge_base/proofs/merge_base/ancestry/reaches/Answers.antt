use Rattle.std.proofs.Common.{◌≡◌, sym, ap, subst, ◌∙◌, ◌∷◌, [], ◌⊎◌, inl, inr, map, arith}
use Rattle.gix_revwalk.specs.History.{Has, IsAncestor}
use Rattle.gix_revwalk.specs.Number.{place_in}
use Rattle.gix_revwalk.proofs.Ancestors.{has_ancestor}
use Rattle.gix_revwalk.proofs.Growth.{len-grown}
use Rattle.gix_merge_base.specs.PaintQueue.{id_at, IsHeld}
use Rattle.gix_merge_base.proofs.Ancestry.{takes_ends}
use Rattle.gix_merge_base.proofs.QueueKeys.{number-id, id-grown, holds-before}
use Rattle.gix_merge_base.proofs.merge_base.ancestry.reaches.Goals as goal

pub returns-in_err-from-clause-taken : goal.returns-in_err-from-clause-taken
returns-in_err-from-clause-taken g c =
    let first = ap g.S.Find.history c.begin_walk.ensures.source in
    let one = rw first at c.look_up.ensures.holds in
    let two = rw (c.in_ok-target.ensures.after.graph.same_history, first) at c.look_up-2.ensures.holds in
    takes_ends (g.S.Find.history c.args.graph.now.source) c.args.of c.args.ancestor (IsHeld c.args.graph.now) (IsHeld c.look_up.new.graph) (IsHeld c.look_up-2.new.graph)
    (holds-before _ (c.args.ancestor ∷ []) c.args.graph.now c.begin_walk.new.graph c.look_up.new.graph (ap (map (λ x. x.0)) c.begin_walk.ensures.held) one) two

pub returns-in_default-2-clause-exact : goal.returns-in_default-2-clause-exact
returns-in_default-2-clause-exact g c never =
    let h = g.S.Find.history c.args.graph.now.source in
    let chain = c.in_ok-target.ensures.after.graph.same_history ∙ ap g.S.Find.history c.begin_walk.ensures.source in
    let lacks = rw (c.in_default-2.is, chain) at c.in_ok-from.ensures.has in
    (λ k. cc, λ reached. lacks ∙ (has_ancestor h c.args.of c.args.ancestor reached).1)

pub meets-requires-clause-from : goal.meets-requires-clause-from
meets-requires-clause-from g c = (number-id c.look_up-2.new.graph c.args.of (place_in c.in-Some-2.from) (rw c.in-Some-2.is at c.in_ok-from.ensures.number)).0

pub meets-requires-clause-target : goal.meets-requires-clause-target
meets-requires-clause-target g c =
    let lt = (number-id c.look_up.new.graph c.args.ancestor (place_in c.in-Some.target) (rw c.in-Some.is at c.in_ok-target.ensures.number)).0 in
    let len = len-grown c.look_up.new.graph c.look_up-2.new.graph c.in_ok-from.ensures.grows in
    omega arith

pub meets-requires-clause-has : goal.meets-requires-clause-has
meets-requires-clause-has g c =
    let new = c.look_up-2.new.graph in
    let is = (number-id new c.args.of (place_in c.in-Some-2.from) (rw c.in-Some-2.is at c.in_ok-from.ensures.number)).1 in
    let had = rw c.in-Some-2.is at c.in_ok-from.ensures.has in
    subst (λ z. Has z (id_at new (place_in c.in-Some-2.from))) (sym c.in_ok-from.ensures.after.graph.same_history)
    (subst (Has (g.S.Find.history c.look_up.new.graph.source)) (sym is) (sym had))

pub returns-clause-exact : goal.returns-clause-exact
returns-clause-exact g c never =
    let mid = c.look_up.new.graph in
    let new = c.look_up-2.new.graph in
    let chain = c.in_ok-from.ensures.after.graph.same_history ∙ c.in_ok-target.ensures.after.graph.same_history ∙ ap g.S.Find.history c.begin_walk.ensures.source in
    let from = (number-id new c.args.of (place_in c.in-Some-2.from) (rw c.in-Some-2.is at c.in_ok-from.ensures.number)).1 in
    let old = number-id mid c.args.ancestor (place_in c.in-Some.target) (rw c.in-Some.is at c.in_ok-target.ensures.number) in
    let target : id_at new (place_in c.in-Some.target) ≡ c.args.ancestor = id-grown mid new c.in_ok-from.ensures.grows (place_in c.in-Some.target) old.0 ∙ old.1 in
    let exact = rw (chain, from, target) at c.meets.ensures.exact in
    exact never

pub returns-clause-reached : goal.returns-clause-reached
returns-clause-reached g c =
    let mid = c.look_up.new.graph in
    let new = c.look_up-2.new.graph in
    let chain = c.in_ok-from.ensures.after.graph.same_history ∙ c.in_ok-target.ensures.after.graph.same_history ∙ ap g.S.Find.history c.begin_walk.ensures.source in
    let from = (number-id new c.args.of (place_in c.in-Some-2.from) (rw c.in-Some-2.is at c.in_ok-from.ensures.number)).1 in
    let old = number-id mid c.args.ancestor (place_in c.in-Some.target) (rw c.in-Some.is at c.in_ok-target.ensures.number) in
    let target : id_at new (place_in c.in-Some.target) ≡ c.args.ancestor = id-grown mid new c.in_ok-from.ensures.grows (place_in c.in-Some.target) old.0 ∙ old.1 in
    rw (chain, from, target) at c.meets.ensures.reached

pub returns-clause-taken : goal.returns-clause-taken
returns-clause-taken g c q k =
    let h = g.S.Find.history c.args.graph.now.source in
    let new = c.look_up-2.new.graph in
    let first = ap g.S.Find.history c.begin_walk.ensures.source in
    let second = c.in_ok-target.ensures.after.graph.same_history ∙ first in
    let from = (number-id new c.args.of (place_in c.in-Some-2.from) (rw c.in-Some-2.is at c.in_ok-from.ensures.number)).1 in
    let one = rw first at c.look_up.ensures.holds in
    let two = rw second at c.look_up-2.ensures.holds in
    let walk = rw (c.in_ok-from.ensures.after.graph.same_history ∙ second, from) at c.meets.ensures.taken in
    elim (walk q k) as (λ _. IsHeld c.args.graph.now q ⊎ ((q ≡ c.args.ancestor) ⊎ IsAncestor h c.args.of q)) [
      | inl a ↦ takes_ends h c.args.of c.args.ancestor (IsHeld c.args.graph.now) (IsHeld c.look_up.new.graph) (IsHeld new)
          (holds-before h (c.args.ancestor ∷ []) c.args.graph.now c.begin_walk.new.graph c.look_up.new.graph (ap (map (λ x. x.0)) c.begin_walk.ensures.held) one) two q a
      | inr b ↦ inr (inr b)
    ]
