use Rattle.std.proofs.Common.{◌∙◌}
use Rattle.gix_graph_rows.proofs.FrontChunks.{laid_out}
use Rattle.gix_graph_rows.proofs.layer.Layer.new.Goals as goal

pub invariant_of-result-clause-laid_out : goal.invariant_of-result-clause-laid_out
invariant_of-result-clause-laid_out g c = λ k.
    let layout = c.in_ok-layout.ensures in
    laid_out (g.O.Opened.content c.args.source.file) c.in_ok-contents.contents.bytes.items (c.in_ok-contents.ensures k) c.in_ok-layout.field-0 c.in_ok-fanout.fanout.bytes.items
    c.in_ok-contents.contents.whole (layout.fanout ∙ c.in_ok-at.ensures.value) (rw layout.fanout (c.in_ok-fanout.ensures k)) c.in_ok-fanout.fanout.rises.whole
    (layout.count ∙ c.count.ensures) layout.ids layout.rows layout.edges layout.len
