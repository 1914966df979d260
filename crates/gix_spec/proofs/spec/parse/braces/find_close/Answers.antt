use Rattle.std.proofs.Common.{◌≤◌, ◌+◌, arith}
use Rattle.gix_spec.proofs.Pairs.{follows_next, escapes_next, level_next, none_next, level_there, closed_fits, at_most_one}
use Rattle.gix_spec.proofs.spec.parse.braces.find_close.Goals as goal

pub returns-then-open-eq0-clause-escapes : goal.returns-then-open-eq0-clause-escapes
returns-then-open-eq0-clause-escapes c =
    let l = c.loop-place in
    escapes_next c.args.text.now l.place l.escapes c.escapes_so_far-escapes.result l.escaping l.invariant.escapes l.invariant.escaping c.escapes_so_far-escapes.ensures

pub loop-place-preserved : goal.loop-place-preserved
loop-place-preserved c =
    let text = c.args.text.now in
    let l = c.loop-place in
    let opened = c.counted-opened.result in
    let closed = c.counted-closed.result in
    let fits : closed ≤ l.open = closed_fits text l.place l.open closed l.escaping c.requires l.invariant.inside c.counted-closed.ensures in
    let fit : closed ≤ l.open + opened = omega (arith, fits) in
    let level = level_next text l.place l.open opened closed l.escaping l.invariant.escaping c.counted-opened.ensures c.counted-closed.ensures l.invariant.level fit in
    record {
      escaping = follows_next text l.place l.escaping c.begins_escape-escaping.result l.invariant.escaping c.begins_escape-escaping.ensures;
      level = level;
      escapes = escapes_next text l.place l.escapes c.escapes_so_far-escapes.result l.escaping l.invariant.escapes l.invariant.escaping c.escapes_so_far-escapes.ensures;
      small = omega (arith, l.invariant.small, at_most_one _ opened c.counted-opened.ensures);
      inside = λ some. omega (arith, c.if-open-eq0.false);
      none = none_next text l.place _ l.invariant.none level c.if-open-eq0.false;
    }

pub returns-then-open-eq0-clause-place : goal.returns-then-open-eq0-clause-place
returns-then-open-eq0-clause-place c =
    let text = c.args.text.now in
    let l = c.loop-place in
    let opened = c.counted-opened.result in
    let closed = c.counted-closed.result in
    let fits : closed ≤ l.open = closed_fits text l.place l.open closed l.escaping c.requires l.invariant.inside c.counted-closed.ensures in
    let fit : closed ≤ l.open + opened = omega (arith, fits) in
    let level = level_next text l.place l.open opened closed l.escaping l.invariant.escaping c.counted-opened.ensures c.counted-closed.ensures l.invariant.level fit in
    (c.loop-place-test.true, level_there text l.place _ level c.if-open-eq0.true, l.invariant.none)

pub returns-then-open-eq0-clause-none : goal.returns-then-open-eq0-clause-none
returns-then-open-eq0-clause-none c = tt

pub overflow_sub-open : goal.overflow_sub-open
overflow_sub-open c =
    let l = c.loop-place in
    let fits : c.counted-closed.result ≤ l.open = closed_fits c.args.text.now l.place l.open c.counted-closed.result l.escaping c.requires l.invariant.inside c.counted-closed.ensures in
    omega (arith, fits)

pub returns-clause-none : goal.returns-clause-none
returns-clause-none c k within = c.loop-place.invariant.none k (omega (arith, within, c.loop-place-test.false))
