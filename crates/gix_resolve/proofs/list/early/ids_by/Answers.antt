use Rattle.std.below.core.proofs.iter.Serving.{as_err}
use Rattle.std.proofs.Common.{sym, ap, subst, ◌∙◌}
use Rattle.gix_revwalk.specs.Sizes.{Lists}
use Rattle.gix_merge_base.specs.PaintQueue.{ids_at, AreIn}
use Rattle.gix_resolve.specs.ListMeaning.{IsMeant}
use Rattle.gix_resolve.proofs.ListMembers.{none-listed, no_items, some_items}
use Rattle.gix_resolve.proofs.list.early.ids_by.Goals as goal

pub returns-then-is_empty-clause-meant : goal.returns-then-is_empty-clause-meant
returns-then-is_empty-clause-meant g c =
    let numbers = c.in_ok-numbers.numbers in
    none-listed c.members_by.new.graph (IsMeant (g.S.Find.history c.args.graph.now.source) c.args.spec) numbers.items c.new.result.items
    (no_items numbers.items numbers.len numbers.ok.0 (sym c.is_empty.ensures ∙ c.if-is_empty.true)) c.new.ensures.items c.in_ok-numbers.ensures.meant

pub returns-then-is_empty-clause-exclude : goal.returns-then-is_empty-clause-exclude
returns-then-is_empty-clause-exclude g c = λ is. (c.new.ensures.items, (c.in_ok-numbers.ensures.exclude is).1)

pub ids_of-requires : goal.ids_of-requires
ids_of-requires g c = subst (AreIn c.members_by.new.graph) (sym c.deref.ensures.value) c.in_ok-numbers.ensures.meant.0

pub returns-in_err-ids_of-clause-exclude : goal.returns-in_err-ids_of-clause-exclude
returns-in_err-ids_of-clause-exclude g c = λ is.
    let numbers = c.in_ok-numbers.numbers in
    absurd (some_items numbers.items numbers.len numbers.ok.0 (sym c.is_empty.ensures ∙ c.if-is_empty.false) (c.in_ok-numbers.ensures.exclude is).0)

pub returns-clause-meant : goal.returns-clause-meant
returns-clause-meant g c =
    subst (λ l. Lists l (IsMeant (g.S.Find.history c.args.graph.now.source) c.args.spec)) (sym (c.in_ok-ids_of.ensures ∙ ap (ids_at c.members_by.new.graph) c.deref.ensures.value)) c.in_ok-numbers.ensures.meant.1

pub returns-clause-exclude : goal.returns-clause-exclude
returns-clause-exclude g c = λ is.
    let numbers = c.in_ok-numbers.numbers in
    absurd (some_items numbers.items numbers.len numbers.ok.0 (sym c.is_empty.ensures ∙ c.if-is_empty.false) (c.in_ok-numbers.ensures.exclude is).0)

pub returns-in_err-numbers-clause-meant : goal.returns-in_err-numbers-clause-meant
returns-in_err-numbers-clause-meant g c = rw (as_err c.from_residual.ensures.0).1 tt

pub returns-in_err-numbers-clause-taken : goal.returns-in_err-numbers-clause-taken
returns-in_err-numbers-clause-taken g c = c.members_by.ensures.taken

pub returns-in_err-ids_of-clause-meant : goal.returns-in_err-ids_of-clause-meant
returns-in_err-ids_of-clause-meant g c = rw (as_err c.from_residual-in_err-ids_of.ensures.0).1 tt

pub returns-clause-taken : goal.returns-clause-taken
returns-clause-taken g c = c.members_by.ensures.taken
