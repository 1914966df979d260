use Rattle.std.proofs.Common.{length, ◌<◌, arith}
use Rattle.gix_range.specs.Lines.{queued}
use Rattle.gix_range.proofs.Lines.{begun_next, leads_begin}
use Rattle.gix_range.proofs.below.begin_lines.Goals as goal

pub loop-id-preserved : goal.loop-id-preserved
loop-id-preserved g c =
    let below : c.loop-id.id-index < length c.args.ids.now = omega arith in
    let old = c.loop-id.lines in
    let new = c.extend.new.self in
    record {
      begun = begun_next c.args.ids.now old.met new.met c.loop-id.id-index _ below c.in_ok-extend.ensures.known c.loop-id.invariant.begun;
      leads = leads_begin (g.S.Find.history c.args.graph.now.source) old.met (queued old.ends) new.met (queued new.ends) _ c.in_ok-extend.ensures c.loop-id.invariant.leads;
    }
