use Rattle.std.proofs.Common.{◌<◌, ◌%◌, ◌∙◌, ap, slice_index, arith}
use Rattle.std.specs.Int.{bit_at}
use Rattle.std.proofs.lemmas.List.{get_or-replicate}
use Rattle.std.proofs.lemmas.Nat.Bits.{bit_at_ones}
use Rattle.gix_describe.proofs.describe.sieve.Sieve.of.Goals as goal

pub returns-then-len-gt-MOST_NAMES : goal.returns-then-len-gt-MOST_NAMES
returns-then-len-gt-MOST_NAMES g c = λ q named.
    let within : slice_index q.0 19 % 64 < 64 = omega arith in
    let place : slice_index q.0 18 % 64 < 64 = omega arith in
    ap (λ n. bit_at n (slice_index q.0 18 % 64)) (get_or-replicate 64 (slice_index q.0 19 % 64) 18446744073709551615 0 within) ∙ bit_at_ones 64 (slice_index q.0 18 % 64) place
