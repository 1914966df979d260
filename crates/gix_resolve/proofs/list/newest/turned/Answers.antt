use Rattle.std.below.core.proofs.iter.Serving.{as_err}
use Rattle.std.proofs.Common.{◌≡◌, Some, ap, refl, ◌∙◌}
use Rattle.gix_revwalk.specs.Commit.{copied_entry}
use Rattle.gix_revwalk.specs.Number.{place_in}
use Rattle.gix_revwalk.specs.Numbers.{named}
use Rattle.gix_revwalk.proofs.Growth.{more-taken}
use Rattle.gix_merge_base.specs.GenThenTime.{key_of}
use Rattle.gix_merge_base.proofs.Numbered.{named-id}
use Rattle.gix_merge_base.proofs.QueueKeys.{number-id}
use Rattle.gix_resolve.proofs.Newest.{turned_some}
use Rattle.gix_resolve.proofs.list.newest.turned.Goals as goal

pub value-requires : goal.value-requires
value-requires g c = (number-id c.take.new.graph c.args.id (place_in c.in-Some-2.number) (rw c.in-Some-2.is at c.in_ok-number.ensures.number)).0

pub returns-clause-turned : goal.returns-clause-turned
returns-clause-turned g c =
    let mid = c.take.new.graph in
    let k = place_in c.in-Some-2.number in
    let at = number-id mid c.args.id k (rw c.in-Some-2.is at c.in_ok-number.ensures.number) in
    let called : named mid k ≡ Some c.args.id = named-id mid k at.0 ∙ ap Some at.1 in
    let agrees = rw c.in_ok-number.ensures.history at (c.value.ensures.agrees c.args.id called) in
    ap Some c.turned_by-2.ensures ∙ turned_some (g.S.Find.history c.args.graph.now.source) c.args.id (copied_entry c.value.result.now) (key_of c.value.result.now) agrees refl

pub returns-clause-taken : goal.returns-clause-taken
returns-clause-taken g c = more-taken (g.S.Find.history c.args.graph.now.source) c.args.graph.now c.take.new.graph c.args.id _ c.in_ok-number.ensures.taken

pub returns-in_err-number-clause-turned : goal.returns-in_err-number-clause-turned
returns-in_err-number-clause-turned g c = rw (as_err c.from_residual.ensures.0).1 tt
