use Rattle.std.proofs.Common.{◌≡◌, refl, ap, cond, take, Some}
use Rattle.gix_revwalk.proofs.graph.marks.Graph+S+u32+A.followed_parents.Goals as goal
use Rattle.gix_revwalk.proofs.graph.marks.Graph+S+u32+A.followed_parents.Goals.{then-first_parent, else-first_parent}

pub returns-clause-parents : goal.returns-clause-parents
returns-clause-parents g c =
    let all = c.in-Some.found.parents.items in
    let parents : c.if-first_parent.parents.items ≡ cond c.args.first_parent (take 1 all) all = elim c.if-first_parent.branch [
      | then-first_parent w ↦ rw (w.parents-is, w.if-first_parent.true) w.truncate.ensures.items
      | else-first_parent w ↦ rw (w.parents-is, w.if-first_parent.false) refl
    ] in
    let found = rw c.in-Some.is at c.in_ok-found.ensures.found in
    rw (← found) (ap Some (rw (c.deref.ensures.value, parents, c.in_ok-found.ensures.history) at c.in_ok-with_times.ensures.timed))
