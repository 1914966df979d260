use Rattle.std.below.core.proofs.iter.Serving.{as_err}
use Rattle.std.proofs.Common.{◌≡◌, Some, sym, ap, ◌∙◌, rules}
use Rattle.gix_revwalk.specs.History.{parents_in}
use Rattle.gix_revwalk.specs.Number.{place_in}
use Rattle.gix_revwalk.specs.Numbers.{named}
use Rattle.gix_revwalk.proofs.Growth.{more-taken}
use Rattle.gix_merge_base.proofs.Numbered.{named-id}
use Rattle.gix_merge_base.proofs.QueueKeys.{number-id}
use Rattle.gix_resolve.proofs.ListMembers.{no_parents}
use Rattle.gix_resolve.proofs.ListTaken.{only_held}
use Rattle.gix_resolve.proofs.list.members.parents_of.Goals as goal

pub returns-in_default-clause-parents : goal.returns-in_default-clause-parents
returns-in_default-clause-parents g c = c.new.ensures.items ∙ sym (no_parents _ (sym (rw c.in_default.is at c.in_ok-number.ensures.has)))

pub value-requires : goal.value-requires
value-requires g c = (number-id c.take.new.graph c.args.id (place_in c.in-Some.number) (rw c.in-Some.is at c.in_ok-number.ensures.number)).0

pub returns-clause-parents : goal.returns-clause-parents
returns-clause-parents g c =
    let mid = c.take.new.graph in
    let k = place_in c.in-Some.number in
    let at = number-id mid c.args.id k (rw c.in-Some.is at c.in_ok-number.ensures.number) in
    let called : named mid k ≡ Some c.args.id = named-id mid k at.0 ∙ ap Some at.1 in
    let agrees = rw c.in_ok-number.ensures.history at (c.value.ensures.agrees c.args.id called) in
    let copied : c.in_ok-to_vec.field-0.items ≡ c.parents.result.now = search rules in
    copied ∙ c.parents.ensures ∙ sym (ap parents_in agrees)

pub returns-in_err-number-clause-taken : goal.returns-in_err-number-clause-taken
returns-in_err-number-clause-taken g c = only_held _ c.args.graph.now c.take.new.graph c.in_err-number.ensures.refused.0

pub returns-in_default-clause-taken : goal.returns-in_default-clause-taken
returns-in_default-clause-taken g c = more-taken (g.S.Find.history c.args.graph.now.source) c.args.graph.now c.take.new.graph c.args.id _ c.in_ok-number.ensures.taken

pub returns-in_err-to_vec-clause-taken : goal.returns-in_err-to_vec-clause-taken
returns-in_err-to_vec-clause-taken g c = more-taken (g.S.Find.history c.args.graph.now.source) c.args.graph.now c.take.new.graph c.args.id _ c.in_ok-number.ensures.taken

pub returns-clause-taken : goal.returns-clause-taken
returns-clause-taken g c = more-taken (g.S.Find.history c.args.graph.now.source) c.args.graph.now c.take.new.graph c.args.id _ c.in_ok-number.ensures.taken

pub returns-in_err-number-clause-parents : goal.returns-in_err-number-clause-parents
returns-in_err-number-clause-parents g c = rw (as_err c.from_residual.ensures.0).1 tt

pub returns-in_err-to_vec-clause-parents : goal.returns-in_err-to_vec-clause-parents
returns-in_err-to_vec-clause-parents g c = rw (as_err c.from_residual-in_err-to_vec.ensures.0).1 tt
