use Rattle.std.proofs.Common.{sym, ap, ◌∙◌}
use Rattle.gix_revwalk.specs.Number.{place_in}
use Rattle.gix_revwalk.specs.declared.numbers.Mark.{Mark}
use Rattle.gix_merge_base.specs.Marks.{MarkSet, marks_of}
use Rattle.gix_merge_base.specs.PaintQueue.{marks_at}
use Rattle.gix_merge_base.specs.declared.merge_base.flags.Flags.{Flags}
use Rattle.gix_merge_base.proofs.QueueKeys.{number-id}
use Rattle.gix_merge_base.proofs.Unheld.{unheld-marks}
use Rattle.gix_merge_base.proofs.merge_base.reduction.is_met.Goals as goal

pub mark_of-requires : goal.mark_of-requires
mark_of-requires g c = (number-id c.args.graph.now c.args.id.now (place_in c.in-Some.number) c.in-Some.ensures).0

pub returns-in-Some : goal.returns-in-Some
returns-in-Some g c =
    c.is_stale.ensures ∙ ap (λ (z : Mark Flags). (marks_of z.marks).stale) c.mark_of.ensures
    ∙ ap (λ q. (marks_at c.args.graph.now q).stale) (number-id c.args.graph.now c.args.id.now (place_in c.in-Some.number) c.in-Some.ensures).1

pub returns-in-None : goal.returns-in-None
returns-in-None g c = sym (ap (λ (z : MarkSet). z.stale) (unheld-marks c.args.graph.now c.args.id.now c.in-None.ensures))
