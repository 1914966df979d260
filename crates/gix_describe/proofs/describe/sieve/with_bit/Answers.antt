use Rattle.std.proofs.Common.{w64, ◌%◌, ◌*◌, ◌^◌, arith}
use Rattle.std.proofs.lemmas.Nat.Bits.{bit_at-lt, bit_at_or, bit_at_set_same}
use Rattle.gix_describe.proofs.describe.sieve.with_bit.Goals as goal

pub returns-clause-own : goal.returns-clause-own
returns-clause-own c = bit_at_set_same w64 c.args.word c.args.place c.requires

pub returns-clause-others : goal.returns-clause-others
returns-clause-others c = λ i has.
    let both = bit_at_or c.args.word (1 * 2 ^ c.args.place % 2 ^ 64) i in
    let low = bit_at-lt (1 * 2 ^ c.args.place % 2 ^ 64) i in
    omega (arith, both, low, has)
