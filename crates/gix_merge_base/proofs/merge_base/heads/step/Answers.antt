use Rattle.std.proofs.Common.{◌≡◌, ◌∙◌, ◌∷◌, [], length, sym, arith, tests}
use Rattle.gix_merge_base.proofs.Heads.{step_none, step_alone, step_best}
use Rattle.gix_merge_base.proofs.Sorting.{few_in_order}
use Rattle.std.proofs.Common.{inl, inr}
use Rattle.gix_revwalk.proofs.Members.{one_of-head}
use Rattle.gix_merge_base.proofs.Residuals.{after_err}
use Rattle.gix_merge_base.proofs.merge_base.heads.step.Goals as goal

pub returns-then-is_empty-clause-step : goal.returns-then-is_empty-clause-step
returns-then-is_empty-clause-step g c acyclic has =
    let none : length c.args.bases.now ≡ 0 = grind (arith, tests) in
    rw c.new.ensures.items (step_none (g.S.Find.history c.args.graph.now.source) c.args.bases.now c.args.head none)

pub returns-then-stands_in-clause-step : goal.returns-then-stands_in-clause-step
returns-then-stands_in-clause-step g c acyclic has =
    let items : c.in_ok-alone.alone.items ≡ c.args.head ∷ [] = c.in_ok-alone.ensures.items_if_clones_equal (λ x y same. same) in
    rw items (step_alone (g.S.Find.history c.args.graph.now.source) c.args.bases.now c.args.head has (sym c.stands_in.ensures ∙ c.if-stands_in.true))

pub returns-clause-step : goal.returns-clause-step
returns-clause-step g c acyclic has =
    step_best (g.S.Find.history c.args.graph.now.source) c.args.bases.now c.args.head c.in_ok-left.left.items acyclic (c.in_ok-left.ensures.covers acyclic) (c.in_ok-left.ensures.best acyclic)

pub returns-then-is_empty-clause-order : goal.returns-then-is_empty-clause-order
returns-then-is_empty-clause-order g c = rw c.new.ensures.items (few_in_order (g.S.Find.history c.args.graph.now.source) [] (omega arith))

pub returns-then-stands_in-clause-order : goal.returns-then-stands_in-clause-order
returns-then-stands_in-clause-order g c =
    let items : c.in_ok-alone.alone.items ≡ c.args.head ∷ [] = c.in_ok-alone.ensures.items_if_clones_equal (λ x y same. same) in
    rw items (few_in_order (g.S.Find.history c.args.graph.now.source) (c.args.head ∷ []) (omega arith))

pub returns-then-is_empty-clause-below : goal.returns-then-is_empty-clause-below
returns-then-is_empty-clause-below g c = rw c.new.ensures.items (λ x k. cc)

pub returns-then-stands_in-clause-below : goal.returns-then-stands_in-clause-below
returns-then-stands_in-clause-below g c =
    let items : c.in_ok-alone.alone.items ≡ c.args.head ∷ [] = c.in_ok-alone.ensures.items_if_clones_equal (λ x y same. same) in
    rw items (λ x k. inl k)

pub returns-clause-below : goal.returns-clause-below
returns-clause-below g c x k = inr (c.args.head, one_of-head c.args.head [], (c.in_ok-left.ensures.common x k).0)

pub returns-in_err-left-clause-after : goal.returns-in_err-left-clause-after
returns-in_err-left-clause-after g c = after_err _ _ _ c.in_err-left.field-0.0 c.from_residual-in_err-left.ensures.1 c.in_err-left.ensures.after

pub returns-in_err-left-clause-loads : goal.returns-in_err-left-clause-loads
returns-in_err-left-clause-loads g c = c.best.ensures.loads

pub returns-clause-loads : goal.returns-clause-loads
returns-clause-loads g c = c.best.ensures.loads

pub returns-clause-order : goal.returns-clause-order
returns-clause-order g c = c.in_ok-left.ensures.order
