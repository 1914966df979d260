use Rattle.std.below.core.proofs.iter.Serving.{as_err}
use Rattle.std.proofs.Common.{sym, subst, ◌∙◌, [], arith}
use Rattle.std.specs.List.Sorted.{IsPermutation}
use Rattle.gix_merge_base.specs.PaintQueue.{ids_at, AreIn}
use Rattle.gix_merge_base.proofs.Sorting.{few_in_order}
use Rattle.gix_resolve.specs.ListMeaning.{IsMeant}
use Rattle.gix_resolve.proofs.ListMembers.{none-listed, no_items, some_items}
use Rattle.gix_resolve.proofs.ListSorted.{lists-permuted}
use Rattle.gix_resolve.proofs.Newest.{in_order}
use Rattle.gix_resolve.proofs.list.newest.newest_members.Goals as goal

pub returns-then-is_empty-clause-meant : goal.returns-then-is_empty-clause-meant
returns-then-is_empty-clause-meant g c =
    let numbers = c.in_ok-numbers.numbers in
    none-listed c.members_by.new.graph (IsMeant (g.S.Find.history c.args.graph.now.source) c.args.spec) numbers.items c.new.result.items
    (no_items numbers.items numbers.len numbers.ok.0 (sym c.is_empty.ensures ∙ c.if-is_empty.true)) c.new.ensures.items c.in_ok-numbers.ensures.meant

pub returns-then-is_empty-clause-order : goal.returns-then-is_empty-clause-order
returns-then-is_empty-clause-order g c = rw c.new.ensures.items (few_in_order (g.S.Find.history c.args.graph.now.source) [] (omega arith))

pub returns-then-is_empty-clause-exclude : goal.returns-then-is_empty-clause-exclude
returns-then-is_empty-clause-exclude g c = λ is. (c.new.ensures.items, (c.in_ok-numbers.ensures.exclude is).1)

pub newest_of-requires : goal.newest_of-requires
newest_of-requires g c = subst (AreIn c.members_by.new.graph) (sym c.deref.ensures.value) c.in_ok-numbers.ensures.meant.0

pub returns-in_err-newest_of-clause-exclude : goal.returns-in_err-newest_of-clause-exclude
returns-in_err-newest_of-clause-exclude g c = λ is.
    let numbers = c.in_ok-numbers.numbers in
    absurd (some_items numbers.items numbers.len numbers.ok.0 (sym c.is_empty.ensures ∙ c.if-is_empty.false) (c.in_ok-numbers.ensures.exclude is).0)

pub returns-clause-meant : goal.returns-clause-meant
returns-clause-meant g c =
    let new = c.members_by.new.graph in
    let found = c.in_ok-newest_of.field-0.items in
    let perm = subst (λ l. IsPermutation (ids_at new l) found) c.deref.ensures.value c.in_ok-newest_of.ensures.same in
    lists-permuted (IsMeant (g.S.Find.history c.args.graph.now.source) c.args.spec) (ids_at new c.in_ok-numbers.numbers.items) found c.in_ok-numbers.ensures.meant.1 perm

pub returns-clause-order : goal.returns-clause-order
returns-clause-order g c =
    let h = g.S.Find.history c.args.graph.now.source in
    let new = c.members_by.new.graph in
    let found = c.in_ok-newest_of.field-0.items in
    let perm = subst (λ l. IsPermutation (ids_at new l) found) c.deref.ensures.value c.in_ok-newest_of.ensures.same in
    let all = lists-permuted (IsMeant h c.args.spec) (ids_at new c.in_ok-numbers.numbers.items) found c.in_ok-numbers.ensures.meant.1 perm in
    in_order h found all.0 (rw c.members_by.ensures.after.same_history at c.in_ok-newest_of.ensures.order)

pub returns-clause-exclude : goal.returns-clause-exclude
returns-clause-exclude g c = λ is.
    let numbers = c.in_ok-numbers.numbers in
    absurd (some_items numbers.items numbers.len numbers.ok.0 (sym c.is_empty.ensures ∙ c.if-is_empty.false) (c.in_ok-numbers.ensures.exclude is).0)

pub returns-in_err-numbers-clause-meant : goal.returns-in_err-numbers-clause-meant
returns-in_err-numbers-clause-meant g c = rw (as_err c.from_residual.ensures.0).1 tt

pub returns-in_err-numbers-clause-order : goal.returns-in_err-numbers-clause-order
returns-in_err-numbers-clause-order g c = rw (as_err c.from_residual.ensures.0).1 tt

pub returns-in_err-numbers-clause-taken : goal.returns-in_err-numbers-clause-taken
returns-in_err-numbers-clause-taken g c = c.members_by.ensures.taken

pub returns-in_err-newest_of-clause-meant : goal.returns-in_err-newest_of-clause-meant
returns-in_err-newest_of-clause-meant g c = rw (as_err c.from_residual-in_err-newest_of.ensures.0).1 tt

pub returns-in_err-newest_of-clause-order : goal.returns-in_err-newest_of-clause-order
returns-in_err-newest_of-clause-order g c = rw (as_err c.from_residual-in_err-newest_of.ensures.0).1 tt

pub returns-clause-taken : goal.returns-clause-taken
returns-clause-taken g c = c.members_by.ensures.taken
