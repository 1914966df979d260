use Rattle.std.proofs.Common.{◌≡◌, sym, ◌∙◌, ◌⊎◌, inl, inr}
use Rattle.std.proofs.lemmas.Result.{IfOk-weaker}
use Rattle.gix_revwalk.specs.History.{IsAncestor}
use Rattle.gix_revwalk.proofs.Ids.{same_id-true}
use Rattle.gix_merge_base.specs.PaintQueue.{IsHeld}
use Rattle.gix_merge_base.proofs.Ancestry.{itself_reached, takes_start}
use Rattle.gix_merge_base.proofs.merge_base.ancestry.is_ancestor.Goals as goal

pub returns-then-eq-clause-ancestor : goal.returns-then-eq-clause-ancestor
returns-then-eq-clause-ancestor g c never =
    let same = same_id-true c.args.ancestor c.args.of (sym c.eq.ensures ∙ c.if-eq.true) in
    IfOk-weaker c.is_there.result _ _ (itself_reached (g.S.Find.history c.args.graph.now.source) c.args.ancestor c.args.of same) c.is_there.ensures.has

pub returns-then-eq-clause-reached : goal.returns-then-eq-clause-reached
returns-then-eq-clause-reached g c =
    let same = same_id-true c.args.ancestor c.args.of (sym c.eq.ensures ∙ c.if-eq.true) in
    IfOk-weaker c.is_there.result _ _ (λ answer is. (itself_reached (g.S.Find.history c.args.graph.now.source) c.args.ancestor c.args.of same answer is).0) c.is_there.ensures.has

pub returns-then-eq-clause-taken : goal.returns-then-eq-clause-taken
returns-then-eq-clause-taken g c q k =
    let h = g.S.Find.history c.args.graph.now.source in
    elim (c.is_there.ensures.holds q k) as (λ _. IsHeld c.args.graph.now q ⊎ ((q ≡ c.args.ancestor) ⊎ IsAncestor h c.args.of q)) [
      | inl a ↦ inl a
      | inr e ↦ inr (inr (takes_start h c.args.of q e))
    ]

pub returns-clause-ancestor : goal.returns-clause-ancestor
returns-clause-ancestor g c = c.reaches.ensures.exact

pub returns-clause-reached : goal.returns-clause-reached
returns-clause-reached g c = c.reaches.ensures.reached
