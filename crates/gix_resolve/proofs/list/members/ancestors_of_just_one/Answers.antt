use Rattle.std.below.core.proofs.iter.Serving.{as_err}
use Rattle.std.proofs.Common.{ap, ◌∙◌, ◌++◌}
use Rattle.gix_resolve.proofs.ListMembers.{just-merge}
use Rattle.gix_resolve.proofs.ListTaken.{only_swapped, only_either}
use Rattle.gix_resolve.proofs.list.members.ancestors_of_just_one.Goals as goal

pub returns-clause-meant : goal.returns-clause-meant
returns-clause-meant g c =
    let right = rw c.ancestors_beyond.ensures.after.same_history at c.in_ok-others.ensures.beyond in
    just-merge (g.S.Find.history c.args.graph.now.source) c.args.theirs c.args.ours c.ancestors_beyond.new.graph c.ancestors_beyond-2.new.graph c.in_ok-numbers.numbers.items c.in_ok-others.others.items _
    (c.in_ok-extend_from_slice.ensures.items ∙ ap (λ l. c.in_ok-numbers.numbers.items ++ l) c.deref.ensures.value) c.in_ok-others.ensures.numbers c.in_ok-numbers.ensures.beyond right

pub returns-in_err-numbers-clause-taken : goal.returns-in_err-numbers-clause-taken
returns-in_err-numbers-clause-taken g c =
    only_swapped (g.S.Find.history c.args.graph.now.source) c.args.theirs c.args.ours c.args.graph.now c.ancestors_beyond.new.graph c.ancestors_beyond.ensures.taken

pub returns-in_err-others-clause-taken : goal.returns-in_err-others-clause-taken
returns-in_err-others-clause-taken g c =
    only_either (g.S.Find.history c.args.graph.now.source) c.args.theirs c.args.ours c.args.graph.now c.ancestors_beyond.new.graph c.ancestors_beyond-2.new.graph c.ancestors_beyond.ensures.taken
    (rw c.ancestors_beyond.ensures.after.same_history at c.ancestors_beyond-2.ensures.taken)

pub returns-in_err-extend_from_slice-clause-taken : goal.returns-in_err-extend_from_slice-clause-taken
returns-in_err-extend_from_slice-clause-taken g c =
    only_either (g.S.Find.history c.args.graph.now.source) c.args.theirs c.args.ours c.args.graph.now c.ancestors_beyond.new.graph c.ancestors_beyond-2.new.graph c.ancestors_beyond.ensures.taken
    (rw c.ancestors_beyond.ensures.after.same_history at c.ancestors_beyond-2.ensures.taken)

pub returns-clause-taken : goal.returns-clause-taken
returns-clause-taken g c =
    only_either (g.S.Find.history c.args.graph.now.source) c.args.theirs c.args.ours c.args.graph.now c.ancestors_beyond.new.graph c.ancestors_beyond-2.new.graph c.ancestors_beyond.ensures.taken
    (rw c.ancestors_beyond.ensures.after.same_history at c.ancestors_beyond-2.ensures.taken)

pub returns-in_err-numbers-clause-meant : goal.returns-in_err-numbers-clause-meant
returns-in_err-numbers-clause-meant g c = rw (as_err c.from_residual.ensures.0).1 tt

pub returns-in_err-others-clause-meant : goal.returns-in_err-others-clause-meant
returns-in_err-others-clause-meant g c = rw (as_err c.from_residual-in_err-others.ensures.0).1 tt

pub returns-in_err-extend_from_slice-clause-meant : goal.returns-in_err-extend_from_slice-clause-meant
returns-in_err-extend_from_slice-clause-meant g c = rw (as_err c.from_residual-in_err-extend_from_slice.ensures.0).1 tt
