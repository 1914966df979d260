use Rattle.std.proofs.Common.{rules, arith, ◌+◌, ◌≡◌, length}
use Rattle.gix_files.proofs.Parts.{part-join}
use Rattle.gix_files.proofs.whole.fill.Goals as goal

pub loop-preserved : goal.loop-preserved
loop-preserved g c = record {
  part = λ h.
      let next = c.in_ok-count.ensures.bytes h in
      let at : c.len-at.result ≡ 0 + length c.loop.bytes.items = omega (arith, c.len-at.ensures) in
      rw c.in_ok-extend_from_slice.ensures.items (part-join (g.O.Opened.content c.args.file.now) 0 c.loop.bytes.items _ (c.loop.invariant.part h) (rw at at next));
  steps = search rules;
}
