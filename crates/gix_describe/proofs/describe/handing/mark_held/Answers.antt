use Rattle.std.proofs.Common.{◌≡◌, ◌-◌, ◌<◌, ap, cond, not, sym, subst, slice_index, ◌∙◌, length, true, false, arith}
use Rattle.gix_revwalk.specs.Graph.{held_at}
use Rattle.gix_revwalk.specs.Noted.{noted_at}
use Rattle.gix_describe.specs.Lacking.{lacks, CountsLacking}
use Rattle.gix_describe.proofs.Lacking.{counts_held}
use Rattle.gix_describe.proofs.Numbering.{number_named}
use Rattle.gix_describe.proofs.describe.handing.mark_held.Goals as goal

pub returns-then-not-is_noted-clause-counts : goal.returns-then-not-is_noted-clause-counts
returns-then-not-is_noted-clause-counts g c = λ id queue at counts j below.
    let m = c.args.graph.now in
    let n = c.mark-old.new.graph in
    let noted : noted_at n id ≡ false = sym (c.is_noted.ensures id (number_named n id _ (c.mark-old.ensures.numbers id _ at))) ∙ c.if-not-is_noted.true in
    let same : length c.gain.new.lacking.items ≡ length c.args.lacking.now.items = c.gain.ensures.len in
    let low : j < length c.args.lacking.now.items = omega arith in
    let count = slice_index c.args.lacking.now.items j in
    subst (CountsLacking j (held_at n) (noted_at n) queue) (ap (λ b. cond (not b) (count - (lacks j c.mark-old.result - lacks j c.args.marks)) count) noted ∙ sym (c.gain.ensures.gained j low))
    (counts_held j id c.mark-old.result c.args.marks (held_at m) (held_at n) (noted_at m) (noted_at n) queue count (c.mark-old.ensures.old id at) (c.mark-old.ensures.marks id at) c.mark-old.ensures.noted (counts j low))

pub returns-else-not-is_noted-clause-counts : goal.returns-else-not-is_noted-clause-counts
returns-else-not-is_noted-clause-counts g c = λ id queue at counts j below.
    let m = c.args.graph.now in
    let n = c.mark-old.new.graph in
    let noted : noted_at n id ≡ true = sym (c.is_noted.ensures id (number_named n id _ (c.mark-old.ensures.numbers id _ at))) ∙ c.if-not-is_noted.false in
    let count = slice_index c.args.lacking.now.items j in
    subst (CountsLacking j (held_at n) (noted_at n) queue) (ap (λ b. cond (not b) (count - (lacks j c.mark-old.result - lacks j c.args.marks)) count) noted)
    (counts_held j id c.mark-old.result c.args.marks (held_at m) (held_at n) (noted_at m) (noted_at n) queue count (c.mark-old.ensures.old id at) (c.mark-old.ensures.marks id at) c.mark-old.ensures.noted (counts j below))
