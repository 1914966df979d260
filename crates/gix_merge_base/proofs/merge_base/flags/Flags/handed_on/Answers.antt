use Rattle.std.proofs.Common.{sym, ap, ◌∙◌, ◌&&◌}
use Rattle.gix_merge_base.specs.Marks.{marks_of}
use Rattle.gix_merge_base.proofs.Bits.{marks-staled}
use Rattle.gix_merge_base.proofs.merge_base.flags.Flags.handed_on.Goals as goal

pub returns-then-is_theirs : goal.returns-then-is_theirs
returns-then-is_theirs c =
    let ours = sym c.is_ours.ensures ∙ c.if-is_ours.true in
    let theirs = sym c.is_theirs.ensures ∙ c.if-is_theirs.true in
    marks-staled c.args.self.0 (ap (λ z. z && (marks_of c.args.self).two) ours ∙ theirs)
