use Rattle.std.proofs.Common.{sym, subst, IsTrue, ◌↔◌, [], ◌∷◌, arith}
use Rattle.std.specs.List.{IsDistinct}
use Rattle.gix_revwalk.specs.History.{is_one_of, same_id}
use Rattle.gix_revwalk.proofs.Members.{one_is_distinct}
use Rattle.gix_merge_base.specs.Keys.{IsInOrder}
use Rattle.gix_merge_base.specs.Bases.{IsBase, CoverBases}
use Rattle.gix_merge_base.proofs.Answered.{from-vec, not_plain, base-from_max, bases-found}
use Rattle.gix_merge_base.proofs.Sorting.{few_in_order}
use Rattle.gix_merge_base.proofs.Loads.{met_of_loads}
use Rattle.gix_merge_base.proofs.Residuals.{count_err, cause_err}
use Rattle.gix_merge_base.proofs.merge_base.bases.counted.Goals as goal

pub returns-then-is_empty-clause-once : goal.returns-then-is_empty-clause-once
returns-then-is_empty-clause-once g c = rw c.new.ensures (one_is_distinct c.args.first)

pub returns-then-is_empty-clause-order : goal.returns-then-is_empty-clause-order
returns-then-is_empty-clause-order g c =
    let h = g.S.Find.history c.args.graph.now.source in
    subst (IsInOrder h) (sym c.new.ensures) (few_in_order h (c.args.first ∷ []) (omega arith))

pub returns-clause-bases : goal.returns-clause-bases
returns-clause-bases g c acyclic hold c' =
    let h = g.S.Find.history c.args.graph.now.source in
    subst (λ l. IsTrue (is_one_of l c') ↔ IsBase h c.args.first c.args.others.now c') (sym (from-vec c.from_vec.result c.in_ok-found.found.items c.from_vec.ensures.none c.from_vec.ensures.same))
    (bases-found h c.args.first c.args.others.now c.in_ok-found.found.items (not_plain c.args.others.now c.args.first _ _ c.is_empty.ensures c.if-is_empty.false c.stands_in.ensures c.if-stands_in.false) c' (c.in_ok-found.ensures.best acyclic hold c'))

pub returns-clause-once : goal.returns-clause-once
returns-clause-once g c = subst (IsDistinct same_id) (sym (from-vec c.from_vec.result c.in_ok-found.found.items c.from_vec.ensures.none c.from_vec.ensures.same)) c.in_ok-found.ensures.once

pub returns-clause-order : goal.returns-clause-order
returns-clause-order g c = subst (IsInOrder (g.S.Find.history c.args.graph.now.source)) (sym (from-vec c.from_vec.result c.in_ok-found.found.items c.from_vec.ensures.none c.from_vec.ensures.same)) c.in_ok-found.ensures.order

pub returns-clause-taken : goal.returns-clause-taken
returns-clause-taken g c falls alike =
    let plain = not_plain c.args.others.now c.args.first _ _ c.is_empty.ensures c.if-is_empty.false c.stands_in.ensures c.if-stands_in.false in
    c.in_ok-found.ensures.taken falls (λ a b x y. alike a b (base-from_max _ c.args.first c.args.others.now plain a x) (base-from_max _ c.args.first c.args.others.now plain b y))

pub returns-clause-without_generations : goal.returns-clause-without_generations
returns-clause-without_generations g c acyclic trivial =
    subst (λ l. CoverBases (g.S.Find.history c.args.graph.now.source) c.args.first c.args.others.now l) (sym (from-vec c.from_vec.result c.in_ok-found.found.items c.from_vec.ensures.none c.from_vec.ensures.same)) (c.in_ok-found.ensures.covers acyclic)

pub returns-in_err-found-clause-taken : goal.returns-in_err-found-clause-taken
returns-in_err-found-clause-taken g c falls alike =
    let plain = not_plain c.args.others.now c.args.first _ _ c.is_empty.ensures c.if-is_empty.false c.stands_in.ensures c.if-stands_in.false in
    c.best.ensures.taken falls (λ a b x y. alike a b (base-from_max _ c.args.first c.args.others.now plain a x) (base-from_max _ c.args.first c.args.others.now plain b y))

pub returns-clause-most : goal.returns-clause-most
returns-clause-most g c = c.in_ok-found.ensures.most

pub returns-clause-least : goal.returns-clause-least
returns-clause-least g c acyclic trivial = c.in_ok-found.ensures.least acyclic

pub returns-clause-history : goal.returns-clause-history
returns-clause-history g c = c.best.ensures.after.graph.same_history

pub returns-clause-count : goal.returns-clause-count
returns-clause-count g c = c.in_ok-found.ensures.after.graph.count

pub returns-clause-held : goal.returns-clause-held
returns-clause-held g c = c.best.ensures.after.graph.held

pub returns-in_err-found-clause-history : goal.returns-in_err-found-clause-history
returns-in_err-found-clause-history g c = c.best.ensures.after.graph.same_history

pub returns-in_err-found-clause-held : goal.returns-in_err-found-clause-held
returns-in_err-found-clause-held g c = c.best.ensures.after.graph.held

pub returns-in_err-found-clause-reached : goal.returns-in_err-found-clause-reached
returns-in_err-found-clause-reached g c = met_of_loads c.best.ensures.loads

pub returns-clause-reached : goal.returns-clause-reached
returns-clause-reached g c = met_of_loads c.best.ensures.loads

pub returns-in_err-found-clause-count : goal.returns-in_err-found-clause-count
returns-in_err-found-clause-count g c = count_err _ c.in_err-found.field-0.0 _ _ c.from_residual.ensures.1 c.in_err-found.ensures.after.graph.count

pub returns-in_err-found-clause-cause : goal.returns-in_err-found-clause-cause
returns-in_err-found-clause-cause g c = cause_err _ c.in_err-found.field-0.0 c.from_residual.ensures.1 c.in_err-found.ensures.after.cause
