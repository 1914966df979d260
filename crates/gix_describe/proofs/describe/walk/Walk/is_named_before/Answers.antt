use Rattle.std.proofs.Common.{◌≡◌, ◌==◌, arith}
use Rattle.std.specs.Ordering.{ordering_index}
use Rattle.std.proofs.lemmas.List.{get_or_read}
use Rattle.gix_describe.proofs.Choosing.{index_less}
use Rattle.gix_describe.proofs.describe.walk.Walk.is_named_before.Goals as goal

pub returns : goal.returns
returns g c = λ d.
    let a = get_or_read c.args.self.now.candidates.items _ _ c.requires.i c.index.ensures d in
    let b = get_or_read c.args.self.now.candidates.items _ _ c.requires.j c.index-2.ensures d in
    let m = get_or_read c.args.self.now.counts.items _ _ (omega (arith, c.requires.each, c.requires.i)) c.index-3.ensures 0 in
    let n = get_or_read c.args.self.now.counts.items _ _ (omega (arith, c.requires.each, c.requires.j)) c.index-4.ensures 0 in
    let less : c.eq.result ≡ (ordering_index c.then.result == 0) = c.eq.ensures in
    rw (less, c.then.ensures, c.then-by_name.ensures, c.cmp-2.ensures, c.cmp.ensures, c.cmp-counts.ensures, c.name_bytes.ensures, c.name_bytes-2.ensures, a, b, m, n) (index_less _)
