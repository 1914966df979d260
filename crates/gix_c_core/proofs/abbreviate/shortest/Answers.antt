use Rattle.std.proofs.Common.{◌<◌, sym, ◌∙◌, true≢false, arith}
use Rattle.gix_c_core.specs.Abbreviated.{IsAlone}
use Rattle.gix_c_core.proofs.Fronts.{none-next}
use Rattle.gix_c_core.proofs.abbreviate.shortest.Goals as goal

pub loop-len-preserved : goal.loop-len-preserved
loop-len-preserved c =
    let kept = c.loop-len.invariant in
    (omega (arith, kept.0), none-next (IsAlone c.args.ids.now.keys c.args.id) c.args.least c.loop-len.len kept.1 (λ alone. true≢false (sym (c.is_alone.ensures.1 alone) ∙ c.if-is_alone.false)))

pub returns-then-is_alone : goal.returns-then-is_alone
returns-then-is_alone c = record {
  enough = c.loop-len.invariant.0;
  most = omega (arith, c.loop-len-test.true);
  alone = λ _. c.is_alone.ensures.0 c.if-is_alone.true;
  short = c.loop-len.invariant.1;
}

pub returns : goal.returns
returns c = record {
  enough = c.requires.most;
  most = omega arith;
  alone = λ less. let never : 40 < 40 = less in absurd (omega (arith, never));
  short = λ m from to. c.loop-len.invariant.1 m from (omega (arith, to, c.loop-len-test.false));
}
