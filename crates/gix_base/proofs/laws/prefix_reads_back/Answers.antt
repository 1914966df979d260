use Rattle.std.proofs.Common.{◌≡◌, take, ap, ◌∙◌, arith, length}
use Rattle.gix_base.specs.Hash.{id_text}
use Rattle.gix_base.specs.Prefix.{prefix_text}
use Rattle.gix_base.proofs.PrefixBack.{IsPrefixText-prefix_text, length-padded}
use Rattle.gix_base.proofs.Again.{read_prefix, take-written, take-padded}
use Rattle.gix_base.proofs.laws.prefix_reads_back.Goals as goal

pub returns : goal.returns
returns c =
    let p = c.args.prefix.now in
    let n = c.write_hex-count.result in
    let digits = id_text c.as_oid.result.now in
    let at_most = (IsPrefixText-prefix_text p).1 in
    let count : n ≡ length (prefix_text p) = omega (arith, c.write_hex-count.ensures.count, c.hex_len.ensures, at_most) in
    let long = length-padded (prefix_text p) at_most in
    let room : length digits ≡ 40 = ap length c.as_oid.ensures ∙ long in
    let front = take-written n digits _ c.write_hex-count.new.out (omega (arith, count, room, at_most)) c.write_hex-count.ensures.written in
    let text : take n c.write_hex-count.new.out ≡ prefix_text p = front ∙ (ap (take n) c.as_oid.ensures ∙ take-padded n (prefix_text p) count) in
    read_prefix p (take n c.write_hex-count.new.out) text c.from_hex.result c.from_hex.ensures.read c.from_hex.ensures.shows
