use Rattle.std.proofs.Common.{below_more, ◌∙◌, arith}
use Rattle.gix_ids.proofs.Fanned.{fan-before}
use Rattle.gix_ids.proofs.table.check_fanout.Goals as goal

pub loop-b-preserved : goal.loop-b-preserved
loop-b-preserved c =
    let w = c.word_at-next.ensures.value in
    let e = c.loop-b.invariant.last in
    record {
      last = w ∙ fan-before c.args.bytes.now c.args.t c.loop-b.b;
      fans = below_more _ _ c.loop-b.invariant.fans (record { rises = omega arith; most = omega arith });
    }
