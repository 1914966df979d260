use Rattle.std.proofs.Common.{◌≡◌, Some, ap, refl, ◌∙◌}
use Rattle.gix_revwalk.specs.Number.{place_in}
use Rattle.gix_revwalk.specs.Numbers.{named}
use Rattle.gix_merge_base.proofs.Numbered.{named-id}
use Rattle.gix_merge_base.proofs.QueueKeys.{number-id}
use Rattle.gix_revwalk.proofs.Growth.{more-taken}
use Rattle.gix_merge_base.proofs.merge_base.order.candidate_of.Goals as goal

pub value-commit-requires : goal.value-commit-requires
value-commit-requires g c = (number-id c.take.new.graph c.args.id (place_in c.in-Ok-Some.number) (rw c.in-Ok-Some.field-0-is at c.in-Ok-Some.ensures.number)).0

pub returns-in-Ok-Some-clause-candidate : goal.returns-in-Ok-Some-clause-candidate
returns-in-Ok-Some-clause-candidate g c =
    let mid = c.take.new.graph in
    let k = place_in c.in-Ok-Some.number in
    let at = number-id mid c.args.id k (rw c.in-Ok-Some.field-0-is at c.in-Ok-Some.ensures.number) in
    let called : named mid k ≡ Some c.args.id = named-id mid k at.0 ∙ ap Some at.1 in
    let agrees = rw c.in-Ok-Some.ensures.history at (c.value-commit.ensures.agrees c.args.id called) in
    rw (c.from.ensures, agrees) refl

pub returns-in-Ok-Some-clause-holds : goal.returns-in-Ok-Some-clause-holds
returns-in-Ok-Some-clause-holds g c = let taken = rw c.in-Ok-Some.field-0-is at c.in-Ok-Some.ensures in more-taken (g.S.Find.history c.args.graph.now.source) c.args.graph.now c.take.new.graph c.args.id _ taken.taken

pub returns-in-Ok-None-clause-holds : goal.returns-in-Ok-None-clause-holds
returns-in-Ok-None-clause-holds g c = let taken = rw c.in-Ok-None.field-0-is at c.in-Ok-None.ensures in more-taken (g.S.Find.history c.args.graph.now.source) c.args.graph.now c.take.new.graph c.args.id _ taken.taken
