use Rattle.std.proofs.Common.{◌≡◌, [], ◌∷◌, ◌<◌, ◌≤◌, length, get_or, sym, ap, subst, ◌∙◌, ◌↔◌, List, IsTrue, arith}
use Rattle.std.proofs.lemmas.Result.{IfOk-weaker}
use Rattle.gix_base.specs.declared.hash.ObjectId.{ObjectId}
use Rattle.gix_revwalk.specs.History.{Has, is_one_of}
use Rattle.gix_merge_base.specs.Reducing.{firsts}
use Rattle.gix_merge_base.proofs.Heads.{nothing_common, some_head, found_has, same_heads}
use Rattle.gix_merge_base.proofs.OctopusLaws.{bases_same}
use Rattle.gix_merge_base.proofs.Reached.{reach_among, acyclic_within}
use Rattle.gix_merge_base.proofs.Reduction.{firsts_once}
use Rattle.gix_merge_base.proofs.Sorting.{few_in_order}
use Rattle.gix_merge_base.proofs.Loads.{from_firsts, from_among, loads_then, loads_within}
use Rattle.gix_merge_base.proofs.Residuals.{after_err}
use Rattle.gix_merge_base.proofs.merge_base.heads.bases_of_heads.Goals as goal

pub returns-then-len-clause-bases : goal.returns-then-len-clause-bases
returns-then-len-clause-bases g c acyclic =
    let h = g.S.Find.history c.args.graph.now.source in
    let known = rw (c.deref.ensures.value, c.in_ok-heads.ensures) at c.in_ok-known.ensures.same in
    let once = rw (c.deref.ensures.value, c.in_ok-heads.ensures) at c.in_ok-known.ensures.once in
    let heads = ap (λ (l : List ObjectId). length l) c.in_ok-heads.ensures in
    let few : length c.in_ok-known.known.items < length (firsts (c.args.first ∷ c.args.others.now)) =
    omega (arith, heads, c.if-len.true, c.len.ensures, c.len-2.ensures, c.in_ok-known.known.ok.0, c.in_ok-heads.heads.ok.0) in
    rw c.new.ensures.items (nothing_common h c.args.first c.args.others.now c.in_ok-known.known.items (once (firsts_once (c.args.first ∷ c.args.others.now))) known few)

pub index-newest-requires : goal.index-newest-requires
index-newest-requires g c =
    let some = some_head c.args.first c.args.others.now in
    let heads = ap (λ (l : List ObjectId). length l) c.in_ok-heads.ensures in
    omega (arith, some, heads, c.if-len.false, c.len.ensures, c.len-2.ensures, c.in_ok-known.known.ok.0, c.in_ok-heads.heads.ok.0)

pub returns-clause-bases : goal.returns-clause-bases
returns-clause-bases g c acyclic =
    let h = g.S.Find.history c.args.graph.now.source in
    let known = rw (c.deref.ensures.value, c.in_ok-heads.ensures) at c.in_ok-known.ensures.same in
    let once = rw (c.deref.ensures.value, c.in_ok-heads.ensures) at c.in_ok-known.ensures.once in
    let heads = ap (λ (l : List ObjectId). length l) c.in_ok-heads.ensures in
    let found = c.in_ok-known.known.items in
    let newest = c.index-newest.result.now in
    let enough : length (firsts (c.args.first ∷ c.args.others.now)) ≤ length found =
    omega (arith, heads, c.if-len.false, c.len.ensures, c.len-2.ensures, c.in_ok-known.known.ok.0, c.in_ok-heads.heads.ok.0) in
    let all : newest ∷ c.deref-2.result.now ≡ get_or found 0 newest ∷ found = ap (λ z. z ∷ c.deref-2.result.now) c.index-newest.ensures ∙ ap (λ l. get_or found 0 newest ∷ l) c.deref-2.ensures.value in
    let has = found_has h c.args.first c.args.others.now found (once (firsts_once (c.args.first ∷ c.args.others.now))) known enough newest in
    let same = same_heads h c.args.first c.args.others.now found (once (firsts_once (c.args.first ∷ c.args.others.now))) known enough newest in
    let heads_same = subst (λ l. (i : ObjectId) → IsTrue (is_one_of l i) ↔ IsTrue (is_one_of (c.args.first ∷ c.args.others.now) i)) (sym all) same in
    let reached = acyclic_within h (newest ∷ c.deref-2.result.now) (c.args.first ∷ c.args.others.now)
    (reach_among h (newest ∷ c.deref-2.result.now) (c.args.first ∷ c.args.others.now) (λ i m. (heads_same i).0 m)) acyclic in
    let bases = rw c.in_ok-known.ensures.after.graph.same_history at c.steps.ensures.bases in
    IfOk-weaker c.steps.result _ _
    (λ left are. bases_same h newest c.args.first c.deref-2.result.now c.args.others.now heads_same left.items are)
    (bases reached (subst (λ l. (i : ObjectId) → IsTrue (is_one_of l i) → Has h i) (sym all) has))

pub returns-then-len-clause-order : goal.returns-then-len-clause-order
returns-then-len-clause-order g c = rw c.new.ensures.items (few_in_order (g.S.Find.history c.args.graph.now.source) [] (omega arith))

pub returns-clause-order : goal.returns-clause-order
returns-clause-order g c = rw c.in_ok-known.ensures.after.graph.same_history at c.steps.ensures.order

pub returns-in_err-known-clause-loads : goal.returns-in_err-known-clause-loads
returns-in_err-known-clause-loads g c = loads_within c.deref.result.now (from_firsts (g.S.Find.history c.args.graph.now.source) (c.args.first ∷ c.args.others.now) c.deref.result.now (c.deref.ensures.value ∙ c.in_ok-heads.ensures)) c.in_order.ensures.loads

pub returns-then-len-clause-loads : goal.returns-then-len-clause-loads
returns-then-len-clause-loads g c = loads_within c.deref.result.now (from_firsts (g.S.Find.history c.args.graph.now.source) (c.args.first ∷ c.args.others.now) c.deref.result.now (c.deref.ensures.value ∙ c.in_ok-heads.ensures)) c.in_order.ensures.loads

pub returns-clause-loads : goal.returns-clause-loads
returns-clause-loads g c =
    let h = g.S.Find.history c.args.graph.now.source in
    let ids = c.args.first ∷ c.args.others.now in
    let known = rw (c.deref.ensures.value, c.in_ok-heads.ensures) at c.in_ok-known.ensures.same in
    let once = rw (c.deref.ensures.value, c.in_ok-heads.ensures) at c.in_ok-known.ensures.once in
    let heads = ap (λ (l : List ObjectId). length l) c.in_ok-heads.ensures in
    let found = c.in_ok-known.known.items in
    let newest = c.index-newest.result.now in
    let enough : length (firsts ids) ≤ length found = omega (arith, heads, c.if-len.false, c.len.ensures, c.len-2.ensures, c.in_ok-known.known.ok.0, c.in_ok-heads.heads.ok.0) in
    let all : newest ∷ c.deref-2.result.now ≡ get_or found 0 newest ∷ found = ap (λ z. z ∷ c.deref-2.result.now) c.index-newest.ensures ∙ ap (λ l. get_or found 0 newest ∷ l) c.deref-2.ensures.value in
    let same = same_heads h c.args.first c.args.others.now found (once (firsts_once ids)) known enough newest in
    let loads = rw c.in_ok-known.ensures.after.graph.same_history at c.steps.ensures.loads in
    loads_then (loads_within c.deref.result.now (from_firsts h ids c.deref.result.now (c.deref.ensures.value ∙ c.in_ok-heads.ensures)) c.in_order.ensures.loads)
    (loads_within (newest ∷ c.deref-2.result.now) (from_among h ids (newest ∷ c.deref-2.result.now) (λ x k. (same x).0 (subst (λ l. IsTrue (is_one_of l x)) all k))) loads)

pub returns-in_err-known-clause-after : goal.returns-in_err-known-clause-after
returns-in_err-known-clause-after g c = after_err _ _ _ c.in_err-known.field-0.0 c.from_residual-in_err-known.ensures.1 c.in_err-known.ensures.after
