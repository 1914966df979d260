use Rattle.std.proofs.Common.{◌≡◌, ap, subst, ◌∙◌, map}
use Rattle.std.specs.List.Sorted.{IsPermutation}
use Rattle.gix_merge_base.specs.Candidates.{id_in}
use Rattle.gix_merge_base.proofs.Sorting.{found_same, found_once, found_in_order}
use Rattle.gix_merge_base.proofs.Residuals.{after_err}
use Rattle.gix_merge_base.proofs.merge_base.order.in_order.Goals as goal

pub returns-clause-order : goal.returns-clause-order
returns-clause-order g c distinct =
    let sorted = c.sort_unstable.new.self.items in
    let perm = subst (λ l. IsPermutation l sorted) c.in_ok-candidates.ensures.candidates c.sort_unstable.ensures.permutation in
    let is : c.in_ok-ids_of.field-0.items ≡ map id_in sorted = c.in_ok-ids_of.ensures ∙ ap (map id_in) c.deref.ensures.value in
    rw is (found_in_order _ _ sorted perm c.sort_unstable.ensures.sorted distinct)

pub returns-clause-once : goal.returns-clause-once
returns-clause-once g c distinct =
    let sorted = c.sort_unstable.new.self.items in
    let perm = subst (λ l. IsPermutation l sorted) c.in_ok-candidates.ensures.candidates c.sort_unstable.ensures.permutation in
    let is : c.in_ok-ids_of.field-0.items ≡ map id_in sorted = c.in_ok-ids_of.ensures ∙ ap (map id_in) c.deref.ensures.value in
    rw is (found_once _ _ sorted perm distinct)

pub returns-clause-same : goal.returns-clause-same
returns-clause-same g c c' =
    let sorted = c.sort_unstable.new.self.items in
    let perm = subst (λ l. IsPermutation l sorted) c.in_ok-candidates.ensures.candidates c.sort_unstable.ensures.permutation in
    let is : c.in_ok-ids_of.field-0.items ≡ map id_in sorted = c.in_ok-ids_of.ensures ∙ ap (map id_in) c.deref.ensures.value in
    rw is (found_same _ _ sorted perm c')

pub returns-in_err-candidates-clause-after : goal.returns-in_err-candidates-clause-after
returns-in_err-candidates-clause-after g c = after_err _ _ _ c.in_err-candidates.field-0.0 c.from_residual.ensures.1 c.in_err-candidates.ensures.after

pub returns-in_err-candidates-clause-loads : goal.returns-in_err-candidates-clause-loads
returns-in_err-candidates-clause-loads g c = c.candidates_of.ensures.loads

pub returns-in_err-ids_of-clause-loads : goal.returns-in_err-ids_of-clause-loads
returns-in_err-ids_of-clause-loads g c = c.candidates_of.ensures.loads

pub returns-clause-loads : goal.returns-clause-loads
returns-clause-loads g c = c.candidates_of.ensures.loads
