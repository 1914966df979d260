use Rattle.std.proofs.Common.{ap, ◌∙◌, ℕ, ◌≡◌}
use Rattle.std.specs.Int.Bits.{bit_and, bit_or}
use Rattle.gix_merge_base.specs.Marks.{marks_of}
use Rattle.gix_merge_base.proofs.Bits.{marks-joined}
use Rattle.gix_resolve.proofs.reach.sides.joined.Goals as goal

pub returns : goal.returns
returns c =
    let is : c.from_bits_retain.result.0 ≡ bit_or (bit_and 7 c.args.marks.0) c.args.old.0 =
    c.from_bits_retain.ensures tt ∙ ap (λ x. bit_or (bit_and 7 x) c.bits-2.result) (c.bits.ensures tt) ∙ ap (λ x. bit_or (bit_and 7 c.args.marks.0) x) (c.bits-2.ensures tt) in
    ap (λ (n : ℕ). marks_of (record { 0 = n })) is ∙ marks-joined c.args.marks.0 c.args.old.0
