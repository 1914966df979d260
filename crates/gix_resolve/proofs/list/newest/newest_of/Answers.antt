use Rattle.std.below.core.proofs.iter.Serving.{as_err}
use Rattle.std.proofs.Common.{◌≡◌, ap, subst, sym, ◌∙◌, map}
use Rattle.std.specs.List.Sorted.{IsPermutation, IsSorted}
use Rattle.std.proofs.lemmas.List.Sorted.{IsPermutation-map}
use Rattle.gix_merge_base.specs.Candidates.{id_in}
use Rattle.gix_merge_base.specs.Keys.{choice}
use Rattle.gix_merge_base.specs.PaintQueue.{ids_at}
use Rattle.gix_resolve.specs.Newest.{turned_for}
use Rattle.gix_resolve.proofs.ListMembers.{if-ok}
use Rattle.gix_resolve.proofs.Newest.{all_turned, ids_rise, ids_turned}
use Rattle.gix_resolve.proofs.list.newest.newest_of.Goals as goal

pub returns-clause-order : goal.returns-clause-order
returns-clause-order g c =
    let h = g.S.Find.history c.args.graph.now.source in
    let ids = ids_at c.args.graph.now c.args.numbers.now in
    let sorted = c.sort.new.self.items in
    let perm = subst (λ l. IsPermutation l sorted) c.in_ok-all.ensures c.sort.ensures.permutation in
    if-ok c.ids_of.result (λ found. found.items ≡ map id_in c.deref.result.now) (λ found. IsSorted (choice h) found.items)
    (λ found is. subst (IsSorted (choice h)) (sym (is ∙ ap (map id_in) c.deref.ensures.value)) (ids_rise h (map (turned_for h) ids) sorted (all_turned h ids) perm c.in_ok-sort.ensures.sorted))
    c.ids_of.ensures

pub returns-clause-same : goal.returns-clause-same
returns-clause-same g c =
    let h = g.S.Find.history c.args.graph.now.source in
    let ids = ids_at c.args.graph.now c.args.numbers.now in
    let sorted = c.sort.new.self.items in
    let perm = subst (λ l. IsPermutation l sorted) c.in_ok-all.ensures c.sort.ensures.permutation in
    let moved = subst (λ l. IsPermutation l (map id_in sorted)) (ids_turned h ids) (IsPermutation-map id_in (map (turned_for h) ids) sorted perm) in
    if-ok c.ids_of.result (λ found. found.items ≡ map id_in c.deref.result.now) (λ found. IsPermutation ids found.items)
    (λ found is. subst (IsPermutation ids) (sym (is ∙ ap (map id_in) c.deref.ensures.value)) moved)
    c.ids_of.ensures

pub returns-in_err-all-clause-order : goal.returns-in_err-all-clause-order
returns-in_err-all-clause-order g c = rw (as_err c.from_residual.ensures.0).1 tt

pub returns-in_err-all-clause-same : goal.returns-in_err-all-clause-same
returns-in_err-all-clause-same g c = rw (as_err c.from_residual.ensures.0).1 tt

pub returns-in_err-sort-clause-order : goal.returns-in_err-sort-clause-order
returns-in_err-sort-clause-order g c = rw (as_err c.from_residual-in_err-sort.ensures.0).1 tt

pub returns-in_err-sort-clause-same : goal.returns-in_err-sort-clause-same
returns-in_err-sort-clause-same g c = rw (as_err c.from_residual-in_err-sort.ensures.0).1 tt
