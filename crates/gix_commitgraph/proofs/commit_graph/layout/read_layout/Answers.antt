use Rattle.std.proofs.lemmas.Result.{err_from_is_err_and}
use Rattle.gix_commitgraph.proofs.Rows.{layout-made}
use Rattle.gix_commitgraph.proofs.Refusals.{count-made, chunks-made, lacking-ids}
use Rattle.gix_commitgraph.proofs.commit_graph.layout.read_layout.Goals as goal

pub returns-clause-value : goal.returns-clause-value
returns-clause-value c =
    layout-made c.args.bytes.now _ c.in_ok-fanout.ensures.value c.word_at-count.ensures.value c.in_ok-ids.ensures.value c.in_ok-rows.ensures.value c.in_ok-edges.ensures.start c.in_ok-edges.ensures.count

pub returns-clause-chunks : goal.returns-clause-chunks
returns-clause-chunks c =
    chunks-made c.args.bytes.now _ (returns-clause-value c) c.in_ok-fanout.ensures.there c.in_ok-ids.ensures.there c.in_ok-rows.ensures.there c.in_ok-edges.ensures.there

pub returns-in_err-ids-clause-misshapen : goal.returns-in_err-ids-clause-misshapen
returns-in_err-ids-clause-misshapen c =
    let p = err_from_is_err_and c.from_residual-in_err-ids.result c.from_residual-in_err-ids.ensures.1 in
    rw (p.1, p.2) (lacking-ids c.args.bytes.now c.word_at-count.result _ (count-made c.args.bytes.now _ _ c.in_ok-fanout.ensures.value c.word_at-count.ensures.value) c.in_err-ids.ensures.lacking)
