use Rattle.std.proofs.Common.{◌≡◌, ap, sym, subst, ◌∙◌, take, arith}
use Rattle.std.specs.Prelude.{IsOk}
use Rattle.std.specs.Str.{str_to_ascii_lowercase}
use Rattle.gix_base.specs.Hash.{id_text}
use Rattle.gix_base.specs.Prefix.{IsPrefixText}
use Rattle.gix_base.proofs.Again.{take-written}
use Rattle.gix_base.proofs.ReadBack.{length-id_text}
use Rattle.gix_c_core.proofs.Fronts.{front-is, front-lower}
use Rattle.gix_c_core.proofs.abbreviate.prefix_of.Goals as goal

pub unreachable-requires : goal.unreachable-requires
unreachable-requires c =
    let id = c.args.id in
    let is = c.is_id.ensures in
    let least = c.requires.least in
    let most = c.requires.most in
    let long = length-id_text id is in
    let count : c.write_hex-count.result ≡ c.args.len = omega (arith, c.write_hex-count.ensures.count, most) in
    let front = take-written c.write_hex-count.result (id_text id) _ c.write_hex-count.new.out (omega (arith, count, most, long)) c.write_hex-count.ensures.written ∙ ap (λ n. take n (id_text id)) count in
    let text = subst IsPrefixText (sym front) (front-is id is c.args.len least most) in
    cc (subst (λ r. IsOk r) c.in-Err.is (c.from_hex.ensures.read.1 text))

pub returns : goal.returns
returns c =
    let id = c.args.id in
    let is = c.is_id.ensures in
    let most = c.requires.most in
    let long = length-id_text id is in
    let count : c.write_hex-count.result ≡ c.args.len = omega (arith, c.write_hex-count.ensures.count, most) in
    let front = take-written c.write_hex-count.result (id_text id) _ c.write_hex-count.new.out (omega (arith, count, most, long)) c.write_hex-count.ensures.written ∙ ap (λ n. take n (id_text id)) count in
    c.in-Ok.ensures.shows ∙ (ap str_to_ascii_lowercase front ∙ front-lower id is c.args.len)
