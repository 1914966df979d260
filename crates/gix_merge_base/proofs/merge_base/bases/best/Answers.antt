use Rattle.std.proofs.Common.{◌≤◌, ◌∷◌, length, arith, sym, subst, ◌∙◌}
use Rattle.gix_revwalk.specs.History.{Has}
use Rattle.gix_merge_base.specs.Front.{IsRight, ReducingOn}
use Rattle.gix_merge_base.proofs.Best.{max_of_painted, painted_within, few_are_max, few_alike, some_once, some_within}
use Rattle.gix_merge_base.proofs.Maximal.{common_has}
use Rattle.gix_merge_base.proofs.Residuals.{after_err}
use Rattle.gix_merge_base.proofs.Reached.{acyclic_within, never_within}
use Rattle.gix_merge_base.proofs.Sorting.{few_in_order}
use Rattle.gix_merge_base.proofs.Loads.{loads_of_met, loads_then, loads_within, from_common}
use Rattle.gix_merge_base.proofs.merge_base.bases.best.Goals as goal

pub reduce_painted-requires-clause-once : goal.reduce_painted-requires-clause-once
reduce_painted-requires-clause-once g c = c.in_ok-painted.ensures.painted.once

pub reduce_painted-requires-clause-has : goal.reduce_painted-requires-clause-has
reduce_painted-requires-clause-has g c q k =
    subst (λ h. Has h q) (sym c.paint_with.ensures.after.graph.same_history)
    (common_has (g.S.Find.history c.args.graph.now.source) c.args.first c.args.others.now q (c.in_ok-painted.ensures.painted.common q k))

pub reduce_painted-requires-clause-reducing : goal.reduce_painted-requires-clause-reducing
reduce_painted-requires-clause-reducing g c =
    subst (λ h. ReducingOn h c.in_ok-painted.painted.items c.paint_with.new.graph c.paint_with.new.walk.front) (sym c.paint_with.ensures.after.graph.same_history) c.in_ok-painted.ensures.reducing

pub reduce_painted-requires-clause-right : goal.reduce_painted-requires-clause-right
reduce_painted-requires-clause-right g c = subst (λ h. IsRight h c.paint_with.new.graph c.paint_with.new.walk.front) (sym c.paint_with.ensures.after.graph.same_history) c.in_ok-painted.ensures.right

pub returns-then-len-le1-clause-best : goal.returns-then-len-le1-clause-best
returns-then-len-le1-clause-best g c acyclic hold c' =
    let h = g.S.Find.history c.args.graph.now.source in
    let few : length c.in_ok-painted.painted.items ≤ 1 = omega arith in
    let is = max_of_painted h c.args.first c.args.others.now c.in_ok-painted.painted.items acyclic c.in_ok-painted.ensures.painted.common (c.in_ok-painted.ensures.painted.best acyclic) c' in
    ((λ k. is.0 (few_are_max h c.in_ok-painted.painted.items few c' k)), (λ max. c.in_ok-painted.ensures.painted.best acyclic c' max))

pub returns-clause-best : goal.returns-clause-best
returns-clause-best g c acyclic hold c' =
    let h = g.S.Find.history c.args.graph.now.source in
    let max = rw c.paint_with.ensures.after.graph.same_history at c.in_ok-left.ensures.independent in
    let within = painted_within h c.args.first c.args.others.now c.in_ok-painted.painted.items c.in_ok-painted.ensures.painted.common in
    let ids = c.args.first ∷ c.args.others.now in
    let painted = c.in_ok-painted.painted.items in
    let left = max (acyclic_within h painted ids within acyclic) (never_within h painted ids within hold) c' in
    let is = max_of_painted h c.args.first c.args.others.now c.in_ok-painted.painted.items acyclic c.in_ok-painted.ensures.painted.common (c.in_ok-painted.ensures.painted.best acyclic) c' in
    let same = rw (c.reduce_painted.ensures.after.graph.same_history, c.paint_with.ensures.after.graph.same_history, c.deref.ensures.value) at c.in_ok-ordered.ensures.same in
    ((λ k. is.0 (left.0 ((same c').0 k).0)), (λ m. (same c').1 (left.1 (is.1 m), common_has h c.args.first c.args.others.now c' m.0)))

pub returns-then-len-le1-clause-covers : goal.returns-then-len-le1-clause-covers
returns-then-len-le1-clause-covers g c acyclic = record { every = c.in_ok-painted.ensures.painted.best acyclic; common = c.in_ok-painted.ensures.painted.common }

pub returns-clause-covers : goal.returns-clause-covers
returns-clause-covers g c acyclic =
    let h = g.S.Find.history c.args.graph.now.source in
    let kept = rw c.paint_with.ensures.after.graph.same_history at c.in_ok-left.ensures.kept in
    let within = painted_within h c.args.first c.args.others.now c.in_ok-painted.painted.items c.in_ok-painted.ensures.painted.common in
    let some = c.in_ok-left.ensures.some in
    let same = rw (c.reduce_painted.ensures.after.graph.same_history, c.paint_with.ensures.after.graph.same_history, c.deref.ensures.value) at c.in_ok-ordered.ensures.same in
    record {
      every = λ c' m.
          let left = kept (acyclic_within h c.in_ok-painted.painted.items (c.args.first ∷ c.args.others.now) within acyclic) c' in
          let is = max_of_painted h c.args.first c.args.others.now c.in_ok-painted.painted.items acyclic c.in_ok-painted.ensures.painted.common (c.in_ok-painted.ensures.painted.best acyclic) c' in
          (same c').1 (left (is.1 m), common_has h c.args.first c.args.others.now c' m.0);
      common = λ c' k. c.in_ok-painted.ensures.painted.common c' (some_within c.in_ok-painted.painted.items c.in_ok-left.left.items some c' ((same c').0 k).0);
    }

pub returns-clause-once : goal.returns-clause-once
returns-clause-once g c =
    let once = rw c.deref.ensures.value at c.in_ok-ordered.ensures.once in
    once (some_once c.in_ok-painted.painted.items c.in_ok-left.left.items c.in_ok-left.ensures.some)

pub returns-then-len-le1-clause-order : goal.returns-then-len-le1-clause-order
returns-then-len-le1-clause-order g c =
    let few : length c.in_ok-painted.painted.items ≤ 1 = omega arith in
    few_in_order (g.S.Find.history c.args.graph.now.source) c.in_ok-painted.painted.items few

pub returns-clause-order : goal.returns-clause-order
returns-clause-order g c =
    let order = rw (c.reduce_painted.ensures.after.graph.same_history, c.paint_with.ensures.after.graph.same_history, c.deref.ensures.value) at c.in_ok-ordered.ensures.order in
    order (some_once c.in_ok-painted.painted.items c.in_ok-left.left.items c.in_ok-left.ensures.some)

pub returns-clause-taken : goal.returns-clause-taken
returns-clause-taken g c falls alike =
    let strict = c.in_ok-painted.ensures.painted.strict falls in
    let few = few_alike c.in_ok-painted.painted.items c.in_ok-painted.ensures.painted.once (λ a b a_in b_in. alike a b (strict a a_in) (strict b b_in)) in
    absurd (omega arith)

pub returns-in_err-left-clause-taken : goal.returns-in_err-left-clause-taken
returns-in_err-left-clause-taken g c falls alike =
    let strict = c.in_ok-painted.ensures.painted.strict falls in
    let few = few_alike c.in_ok-painted.painted.items c.in_ok-painted.ensures.painted.once (λ a b a_in b_in. alike a b (strict a a_in) (strict b b_in)) in
    absurd (omega arith)

pub returns-in_err-ordered-clause-taken : goal.returns-in_err-ordered-clause-taken
returns-in_err-ordered-clause-taken g c falls alike =
    let strict = c.in_ok-painted.ensures.painted.strict falls in
    let few = few_alike c.in_ok-painted.painted.items c.in_ok-painted.ensures.painted.once (λ a b a_in b_in. alike a b (strict a a_in) (strict b b_in)) in
    absurd (omega arith)

pub returns-clause-after : goal.returns-clause-after
returns-clause-after g c = record {
  graph = record {
    same_history = c.in_ok-ordered.ensures.after.graph.same_history ∙ c.in_ok-left.ensures.after.graph.same_history ∙ c.in_ok-painted.ensures.after.graph.same_history;
    count = c.in_ok-ordered.ensures.after.graph.count ∙ c.in_ok-left.ensures.after.graph.count ∙ c.in_ok-painted.ensures.after.graph.count;
    held = λ q k. c.in_order.ensures.after.graph.held q (c.reduce_painted.ensures.after.graph.held q (c.paint_with.ensures.after.graph.held q k));
  };
  cause = tt;
}

pub returns-then-len-le1-clause-most : goal.returns-then-len-le1-clause-most
returns-then-len-le1-clause-most g c = c.in_ok-painted.ensures.painted.most

pub returns-clause-most : goal.returns-clause-most
returns-clause-most g c = c.in_ok-painted.ensures.painted.most

pub returns-then-len-le1-clause-once : goal.returns-then-len-le1-clause-once
returns-then-len-le1-clause-once g c = c.in_ok-painted.ensures.painted.once

pub returns-then-len-le1-clause-least : goal.returns-then-len-le1-clause-least
returns-then-len-le1-clause-least g c = c.in_ok-painted.ensures.painted.least

pub returns-clause-least : goal.returns-clause-least
returns-clause-least g c = c.in_ok-painted.ensures.painted.least

pub returns-then-len-le1-clause-taken : goal.returns-then-len-le1-clause-taken
returns-then-len-le1-clause-taken g c falls alike = c.in_ok-painted.ensures.taken falls

pub returns-in_err-painted-clause-taken : goal.returns-in_err-painted-clause-taken
returns-in_err-painted-clause-taken g c falls alike = c.paint_with.ensures.taken falls

pub returns-then-len-le1-clause-after : goal.returns-then-len-le1-clause-after
returns-then-len-le1-clause-after g c = record {
  graph = record { same_history = c.paint_with.ensures.after.graph.same_history; count = c.in_ok-painted.ensures.after.graph.count; held = c.paint_with.ensures.after.graph.held };
  cause = tt;
}

pub returns-in_err-painted-clause-after : goal.returns-in_err-painted-clause-after
returns-in_err-painted-clause-after g c = after_err {U = Unit {0}} _ _ _ c.in_err-painted.field-0.0 c.from_residual.ensures.1 (record {
  graph = record { same_history = c.paint_with.ensures.after.graph.same_history; count = c.in_err-painted.ensures.after.graph.count; held = c.paint_with.ensures.after.graph.held };
  cause = c.in_err-painted.ensures.after.cause;
})

pub returns-in_err-left-clause-after : goal.returns-in_err-left-clause-after
returns-in_err-left-clause-after g c = after_err {U = Unit {0}} _ _ _ c.in_err-left.field-0.0 c.from_residual-in_err-left.ensures.1 (record {
  graph = record {
    same_history = c.reduce_painted.ensures.after.graph.same_history ∙ c.paint_with.ensures.after.graph.same_history;
    count = rw c.in_ok-painted.ensures.after.graph.count at c.in_err-left.ensures.after.graph.count;
    held = λ q k. c.reduce_painted.ensures.after.graph.held q (c.paint_with.ensures.after.graph.held q k);
  };
  cause = c.in_err-left.ensures.after.cause;
})

pub returns-in_err-ordered-clause-after : goal.returns-in_err-ordered-clause-after
returns-in_err-ordered-clause-after g c = after_err {U = Unit {0}} _ _ _ c.in_err-ordered.field-0.0 c.from_residual-in_err-ordered.ensures.1 (record {
  graph = record {
    same_history = c.in_order.ensures.after.graph.same_history ∙ c.reduce_painted.ensures.after.graph.same_history ∙ c.paint_with.ensures.after.graph.same_history;
    count = rw (c.in_ok-left.ensures.after.graph.count, c.in_ok-painted.ensures.after.graph.count) at c.in_err-ordered.ensures.after.graph.count;
    held = λ q k. c.in_order.ensures.after.graph.held q (c.reduce_painted.ensures.after.graph.held q (c.paint_with.ensures.after.graph.held q k));
  };
  cause = c.in_err-ordered.ensures.after.cause;
})

pub returns-then-len-le1-clause-common : goal.returns-then-len-le1-clause-common
returns-then-len-le1-clause-common g c = c.in_ok-painted.ensures.painted.common

pub returns-clause-common : goal.returns-clause-common
returns-clause-common g c c' k =
    let some = c.in_ok-left.ensures.some in
    let same = rw (c.reduce_painted.ensures.after.graph.same_history, c.paint_with.ensures.after.graph.same_history, c.deref.ensures.value) at c.in_ok-ordered.ensures.same in
    c.in_ok-painted.ensures.painted.common c' (some_within c.in_ok-painted.painted.items c.in_ok-left.left.items some c' ((same c').0 k).0)

pub returns-in_err-painted-clause-loads : goal.returns-in_err-painted-clause-loads
returns-in_err-painted-clause-loads g c = loads_of_met (g.S.Find.history c.args.graph.now.source) c.args.first c.args.others.now _ _ c.paint_with.ensures.reached

pub returns-then-len-le1-clause-loads : goal.returns-then-len-le1-clause-loads
returns-then-len-le1-clause-loads g c = loads_of_met (g.S.Find.history c.args.graph.now.source) c.args.first c.args.others.now _ _ c.paint_with.ensures.reached

pub returns-in_err-left-clause-loads : goal.returns-in_err-left-clause-loads
returns-in_err-left-clause-loads g c =
    let h = g.S.Find.history c.args.graph.now.source in
    let painted = c.in_ok-painted.painted.items in
    let reduced = rw c.paint_with.ensures.after.graph.same_history at c.reduce_painted.ensures.loads in
    loads_then (loads_of_met (g.S.Find.history c.args.graph.now.source) c.args.first c.args.others.now _ _ c.paint_with.ensures.reached)
    (loads_within painted (from_common h c.args.first c.args.others.now painted c.in_ok-painted.ensures.painted.common) reduced)

pub returns-clause-loads : goal.returns-clause-loads
returns-clause-loads g c =
    let h = g.S.Find.history c.args.graph.now.source in
    let painted = c.in_ok-painted.painted.items in
    let left = c.in_ok-left.left.items in
    let reduced = rw c.paint_with.ensures.after.graph.same_history at c.reduce_painted.ensures.loads in
    let some = c.in_ok-left.ensures.some in
    let ordered = rw (c.reduce_painted.ensures.after.graph.same_history, c.paint_with.ensures.after.graph.same_history, c.deref.ensures.value) at c.in_order.ensures.loads in
    loads_then (loads_of_met (g.S.Find.history c.args.graph.now.source) c.args.first c.args.others.now _ _ c.paint_with.ensures.reached)
    (loads_then (loads_within painted (from_common h c.args.first c.args.others.now painted c.in_ok-painted.ensures.painted.common) reduced)
    (loads_within left (from_common h c.args.first c.args.others.now left (λ x k. c.in_ok-painted.ensures.painted.common x (some_within painted left some x k))) ordered))

pub returns-in_err-ordered-clause-loads : goal.returns-in_err-ordered-clause-loads
returns-in_err-ordered-clause-loads g c =
    let h = g.S.Find.history c.args.graph.now.source in
    let painted = c.in_ok-painted.painted.items in
    let left = c.in_ok-left.left.items in
    let reduced = rw c.paint_with.ensures.after.graph.same_history at c.reduce_painted.ensures.loads in
    let some = c.in_ok-left.ensures.some in
    let ordered = rw (c.reduce_painted.ensures.after.graph.same_history, c.paint_with.ensures.after.graph.same_history, c.deref.ensures.value) at c.in_order.ensures.loads in
    loads_then (loads_of_met (g.S.Find.history c.args.graph.now.source) c.args.first c.args.others.now _ _ c.paint_with.ensures.reached)
    (loads_then (loads_within painted (from_common h c.args.first c.args.others.now painted c.in_ok-painted.ensures.painted.common) reduced)
    (loads_within left (from_common h c.args.first c.args.others.now left (λ x k. c.in_ok-painted.ensures.painted.common x (some_within painted left some x k))) ordered))
