use Rattle.std.proofs.Common.{◌+◌}
use Rattle.gix_spec.proofs.Pairs.{follows_next, meant_next}
use Rattle.gix_spec.proofs.spec.parse.braces.without_escapes.Goals as goal

pub loop-place-preserved : goal.loop-place-preserved
loop-place-preserved g c =
    let text = c.args.text.now in
    let l = c.loop-place in
    let follows = follows_next text (l.place + 1) l.escaping c.begins_escape-escaping.result l.invariant.escaping c.begins_escape-escaping.ensures in
    record {
      escaping = follows;
      meant = meant_next text l.place l.meant.items c.push_unless.new.bytes.items c.begins_escape-escaping.result c.is_escaped-left_out.result l.invariant.meant follows c.is_escaped-left_out.ensures c.in_ok-push_unless.ensures;
    }
