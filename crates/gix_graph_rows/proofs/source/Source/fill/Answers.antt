use Rattle.std.proofs.Common.{rules, refl}
use Rattle.std.proofs.lemmas.Slice.{take-put_mid}
use Rattle.gix_files.proofs.Parts.{part-more}
use Rattle.gix_graph_rows.proofs.source.Source.fill.Goals as goal

pub loop-preserved : goal.loop-preserved
loop-preserved g c =
    let small = c.loop.invariant.0 in
    let few = c.in_ok-n.ensures.bound in (
      search rules,
      λ h.
          part-more _ c.loop.buf c.read_part.new.buf _ c.args.at c.loop.done c.in_ok-n.n small few
          (take-put_mid c.loop.done _ c.loop.buf c.read_part.new.buf _ refl small) (c.loop.invariant.1 h)
          (search rules),
    )
