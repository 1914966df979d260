use Rattle.std.proofs.Common.{rules, refl, length}
use Rattle.std.proofs.lemmas.Option.{slice_get_read}
use Rattle.gix_commitgraph.proofs.position.locate.Goals as goal

pub returns-then-row-count-clause-place : goal.returns-then-row-count-clause-place
returns-then-row-count-clause-place g c =
    let file = c.index-files-layer.result in
    record {
      file = file;
      there = slice_get_read c.args.files.now (length c.args.files.now) c.loop-layer.layer file refl (search rules) c.index-files-layer.is;
      row = search rules;
      same = c.loop-layer.invariant;
    }
