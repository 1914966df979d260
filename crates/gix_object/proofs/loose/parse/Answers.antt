use Rattle.std.proofs.Common.{length, sym, ap, ◌∙◌, arith}
use Rattle.gix_object.proofs.Headers.{one-header, after-header, shorter}
use Rattle.gix_object.proofs.loose.parse.Goals as goal

pub returns-else-content-header : goal.returns-else-content-header
returns-else-content-header c =
    λ kind content is.
    let less = shorter kind content in
    let size = ap length is in
    let header = c.in-Some.ensures.header in
    let same = one-header c.args.bytes.now header.rest content c.in-Some.header.kind kind c.in-Some.header.size (length content) header.small (omega (arith, less, size)) header.begins is in
    let rest = c.after_line-content.ensures.rest ∙ after-header c.args.bytes.now c.in-Some.header.kind c.in-Some.header.size c.in-Some.header.len header in
    let equal = ap length (rest ∙ same.2) ∙ sym same.1 in
    let f = c.if-content-header.false in
    grind arith
