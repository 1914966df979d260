use Rattle.std.proofs.Common.{◌≡◌, ◌==◌, slice_index, arith}
use Rattle.std.specs.Ordering.{ordering_index}
use Rattle.std.proofs.lemmas.List.{get_or_read}
use Rattle.gix_describe.proofs.Choosing.{less_by_place}
use Rattle.gix_describe.proofs.describe.walk.Walk.is_met_before.Goals as goal

pub returns : goal.returns
returns g c = λ names d.
    let m = get_or_read c.args.self.now.counts.items _ _ (omega (arith, c.requires.each, c.requires.i)) c.index.ensures 0 in
    let n = get_or_read c.args.self.now.counts.items _ _ (omega (arith, c.requires.each, c.requires.j)) c.index-2.ensures 0 in
    let less : c.eq.result ≡ (ordering_index c.then.result == 0) = c.eq.ensures in
    rw (less, c.then.ensures, c.cmp.ensures, c.cmp-2.ensures, m, n) (less_by_place (slice_index c.args.self.now.counts.items c.args.i) (slice_index c.args.self.now.counts.items c.args.j) c.args.i c.args.j)
