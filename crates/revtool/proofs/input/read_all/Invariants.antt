use Rattle.std.proofs.Common.{◌≡◌, [], vec_len}
use Rattle.revtool.specs.Reads.{TakesMore}
use Rattle.revtool.proofs.input.read_all.Given as goal

abbrev pub invariant-loop : goal.invariant-loop
invariant-loop g l =
    TakesMore (g.R.Read.remaining l.fn.input) (g.R.Read.remaining l.input) [] l.text.items
    × (vec_len l.room ≡ 65536)
