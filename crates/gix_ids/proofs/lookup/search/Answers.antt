use Rattle.std.proofs.Common.{◌+◌, ◌*◌, ◌<◌, slice_index, arith}
use Rattle.gix_ids.proofs.Gaps.{place-fanned}
use Rattle.gix_ids.proofs.lookup.search.Goals as goal

pub returns-clause-place : goal.returns-clause-place
returns-clause-place c =
    let t = c.args.t in
    let byte : slice_index c.args.id.0 0 < 256 = omega arith in
    place-fanned c.args.bytes.now t c.requires c.args.id byte _ c.below.ensures c.word_at.ensures.value
    (λ j h. omega (arith, c.type_inv.bytes (t.ids + 20 * j))) c.narrow.result c.narrow.ensures
