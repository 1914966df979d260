use Rattle.std.proofs.Common.{◌≡◌, pos, arith, to_z, of_z, w64}
use Rattle.std.proofs.lemmas.Int.{to_z-of_z}
use Rattle.std.proofs.lemmas.Result.{err_from_is_err_and}
use Rattle.gix_object.specs.CommitTime.{seconds_at}
use Rattle.gix_object.proofs.Parents.{read_at, unread-refused}
use Rattle.gix_object.proofs.commit.parse.Goals as goal

pub returns-in_err-parents-clause-refused : goal.returns-in_err-parents-clause-refused
returns-in_err-parents-clause-refused g c =
    let p = err_from_is_err_and c.from_residual.result c.from_residual.ensures.1 in
    rw (p.1, p.2) (unread-refused c.args.text.now c.in-Some.tree _ c.in-Some.ensures.0 c.in-Some.ensures.1 c.after_line.ensures.rest _ c.in_err-parents.ensures.unread)

pub returns-in-Some-time-clause-read : goal.returns-in-Some-time-clause-read
returns-in-Some-time-clause-read g c =
    let small = c.in-Some-time.ensures.0 in
    let is = c.in-Some-time.ensures.1 in
    let back : to_z w64 (of_z w64 c.in-Some-time.time) ≡ pos (seconds_at c.in_ok-parents.rest.now) = grind (arith, to_z-of_z) in
    record {
      rest = c.in_ok-parents.rest.now;
      tree = c.in-Some.ensures.0;
      lines = read_at c.args.text.now c.in-Some.tree _ c.in-Some.ensures.1 c.after_line.ensures.rest _ _ c.in_ok-parents.ensures.read;
      seconds = back;
      small = small;
    }

pub returns-in-None-clause-refused : goal.returns-in-None-clause-refused
returns-in-None-clause-refused g c =
    let great = c.in-None.ensures in (
      c.in-Some.ensures.0,
      (
        c.in_ok-parents.parents.items,
        c.in_ok-parents.rest.now,
        read_at c.args.text.now c.in-Some.tree _ c.in-Some.ensures.1 c.after_line.ensures.rest _ _ c.in_ok-parents.ensures.read,
        omega (arith, great),
      ),
    )
