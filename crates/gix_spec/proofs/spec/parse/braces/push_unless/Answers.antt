use Rattle.std.proofs.Common.{◌≡◌, true, false, sym}
use Rattle.std.proofs.lemmas.List.{append-nil}
use Rattle.gix_spec.proofs.spec.parse.braces.push_unless.Goals as goal

pub returns-then-left_out : goal.returns-then-left_out
returns-then-left_out g c =
    let out : c.args.left_out ≡ true = c.if-left_out.true in
    rw out (sym (append-nil c.args.bytes.now.items))

pub returns : goal.returns
returns g c =
    let kept : c.args.left_out ≡ false = c.if-left_out.false in
    rw kept c.in_ok-push.ensures.items
