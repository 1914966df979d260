use Rattle.std.below.core.proofs.iter.Serving.{as_err}
use Rattle.std.proofs.Common.{◌≡◌, ap, subst, sym, ◌∙◌, map}
use Rattle.std.specs.List.{dedup, filter_map}
use Rattle.std.specs.List.Sorted.{IsPermutation}
use Rattle.std.proofs.lemmas.List.Filters.{dedup_is}
use Rattle.gix_revwalk.specs.History.{is_one_of, same_id}
use Rattle.gix_merge_base.specs.Candidates.{id_in, turned_at}
use Rattle.gix_merge_base.proofs.Sorting.{found_same}
use Rattle.gix_resolve.proofs.Newest.{are_turned, ids_rise, once_in_order, one_of-dedup}
use Rattle.gix_resolve.proofs.list.newest.in_order.Goals as goal

pub returns-clause-order : goal.returns-clause-order
returns-clause-order g c =
    let h = g.S.Find.history c.args.graph.now.source in
    let sorted = c.sort_unstable.new.self.items in
    let perm = subst (λ l. IsPermutation l sorted) c.in_ok-all.ensures.turned c.sort_unstable.ensures.permutation in
    let is : c.in_ok-found.found.items ≡ map id_in sorted = c.in_ok-found.ensures ∙ ap (map id_in) c.deref.ensures.value in
    let kept : c.dedup.new.self.items ≡ dedup same_id c.in_ok-found.found.items = dedup_is same_id _ _ c.dedup.ensures.filtered in
    rw (kept, is) (once_in_order h (map id_in sorted) (ids_rise h (filter_map (turned_at h) c.args.ids.now) sorted (are_turned h c.args.ids.now) perm c.sort_unstable.ensures.sorted))

pub returns-clause-same : goal.returns-clause-same
returns-clause-same g c d =
    let h = g.S.Find.history c.args.graph.now.source in
    let sorted = c.sort_unstable.new.self.items in
    let perm = subst (λ l. IsPermutation l sorted) c.in_ok-all.ensures.turned c.sort_unstable.ensures.permutation in
    let is : c.in_ok-found.found.items ≡ map id_in sorted = c.in_ok-found.ensures ∙ ap (map id_in) c.deref.ensures.value in
    let kept : c.dedup.new.self.items ≡ dedup same_id c.in_ok-found.found.items = dedup_is same_id _ _ c.dedup.ensures.filtered in
    let same : is_one_of c.dedup.new.self.items d ≡ is_one_of (map id_in sorted) d =
    ap (λ l. is_one_of l d) kept ∙ one_of-dedup c.in_ok-found.found.items d ∙ ap (λ l. is_one_of l d) is in
    let there = found_same h c.args.ids.now sorted perm d in
    ((λ k. there.0 (sym same ∙ k)), (λ k. same ∙ there.1 k))

pub returns-in_err-all-clause-order : goal.returns-in_err-all-clause-order
returns-in_err-all-clause-order g c = rw (as_err c.from_residual.ensures.0).1 tt

pub returns-in_err-all-clause-same : goal.returns-in_err-all-clause-same
returns-in_err-all-clause-same g c = rw (as_err c.from_residual.ensures.0).1 tt

pub returns-in_err-found-clause-order : goal.returns-in_err-found-clause-order
returns-in_err-found-clause-order g c = rw (as_err c.from_residual-in_err-found.ensures.0).1 tt

pub returns-in_err-found-clause-same : goal.returns-in_err-found-clause-same
returns-in_err-found-clause-same g c = rw (as_err c.from_residual-in_err-found.ensures.0).1 tt
