use Rattle.std.proofs.Common.{arith}
use Rattle.gix_base.specs.Hash.{id_text}
use Rattle.gix_base.proofs.ReadBack.{length-id_text}
use Rattle.gix_base.proofs.Again.{read_id, written_all}
use Rattle.gix_base.proofs.laws.id_reads_back.Goals as goal

pub returns : goal.returns
returns c =
    let long = length-id_text c.args.id.now c.is_id.ensures in
    let count = c.write_hex.ensures.count in
    let text = written_all c.write_hex.result (id_text c.args.id.now) _ c.write_hex.new.out (omega (arith, long, count)) (omega (arith, long, c.write_hex.array_long)) c.write_hex.ensures.written in
    read_id c.args.id.now c.is_id.ensures c.write_hex.new.out text c.from_hex.result c.from_hex.ensures.read c.from_hex.ensures.value
