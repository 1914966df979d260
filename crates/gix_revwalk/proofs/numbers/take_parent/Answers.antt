use Rattle.std.proofs.Common.{sym, subst, IsTrue, is_some, inl}
use Rattle.std.specs.Map.{lookup}
use Rattle.gix_revwalk.specs.History.{same_id}
use Rattle.gix_revwalk.proofs.Taken.{grows-same}
use Rattle.gix_revwalk.proofs.Growth.{numbers-push, numbers-skip, more-taken}
use Rattle.gix_revwalk.proofs.numbers.take_parent.Goals as goal

pub returns-in-Ok-clause-numbers : goal.returns-in-Ok-clause-numbers
returns-in-Ok-clause-numbers g c ps e =
    let had = rw c.in-Ok-Some.field-0-is at c.in-Ok-Some.ensures.has in
    let at = rw c.in-Ok-Some.field-0-is at c.in-Ok-Some.ensures.number in
    numbers-push _ c.args.graph.now c.take.new.graph c.in-Ok-Some.ensures.grows ps c.args.id c.args.into.now.items _ c.in-Ok-Some.number c.in-Ok.ensures.items (sym had) at e

pub returns-in-Ok-None-clause-numbers : goal.returns-in-Ok-None-clause-numbers
returns-in-Ok-None-clause-numbers g c ps e =
    numbers-skip _ c.args.graph.now c.take.new.graph c.in-Ok-None.ensures.grows ps c.args.id c.args.into.now.items (sym (rw c.in-Ok-None.field-0-is at c.in-Ok-None.ensures.has)) e

pub returns-in-Ok-clause-more : goal.returns-in-Ok-clause-more
returns-in-Ok-clause-more g c = more-taken _ c.args.graph.now c.take.new.graph c.args.id c.args.new c.in-Ok-Some.ensures.taken

pub returns-in-Err-push-clause-more : goal.returns-in-Err-push-clause-more
returns-in-Err-push-clause-more g c = more-taken _ c.args.graph.now c.take.new.graph c.args.id c.args.new c.in-Ok-Some.ensures.taken

pub returns-in-Ok-None-clause-more : goal.returns-in-Ok-None-clause-more
returns-in-Ok-None-clause-more g c = more-taken _ c.args.graph.now c.take.new.graph c.args.id c.args.new c.in-Ok-None.ensures.taken

pub returns-in-Ok-clause-grows : goal.returns-in-Ok-clause-grows
returns-in-Ok-clause-grows g c = c.in-Ok-Some.ensures.grows

pub returns-in-Ok-clause-count : goal.returns-in-Ok-clause-count
returns-in-Ok-clause-count g c = c.in-Ok-Some.ensures.count

pub returns-in-Ok-clause-history : goal.returns-in-Ok-clause-history
returns-in-Ok-clause-history g c = c.take.ensures.history

pub returns-in-Err-push-clause-grows : goal.returns-in-Err-push-clause-grows
returns-in-Err-push-clause-grows g c = c.in-Ok-Some.ensures.grows

pub returns-in-Err-push-clause-count : goal.returns-in-Err-push-clause-count
returns-in-Err-push-clause-count g c = c.in-Ok-Some.ensures.count

pub returns-in-Err-push-clause-history : goal.returns-in-Err-push-clause-history
returns-in-Err-push-clause-history g c = c.take.ensures.history

pub returns-in-Ok-None-clause-grows : goal.returns-in-Ok-None-clause-grows
returns-in-Ok-None-clause-grows g c = c.in-Ok-None.ensures.grows

pub returns-in-Ok-None-clause-count : goal.returns-in-Ok-None-clause-count
returns-in-Ok-None-clause-count g c = c.in-Ok-None.ensures.count

pub returns-in-Ok-None-clause-history : goal.returns-in-Ok-None-clause-history
returns-in-Ok-None-clause-history g c = c.take.ensures.history

pub returns-in-Err-clause-count : goal.returns-in-Err-clause-count
returns-in-Err-clause-count g c = c.in-Err.ensures.count

pub returns-in-Err-clause-history : goal.returns-in-Err-clause-history
returns-in-Err-clause-history g c = c.take.ensures.history

pub returns-in-Err-clause-grows : goal.returns-in-Err-clause-grows
returns-in-Err-clause-grows g c = grows-same c.args.graph.now c.take.new.graph c.in-Err.ensures.refused.0 c.in-Err.ensures.refused.1

pub returns-in-Err-clause-more : goal.returns-in-Err-clause-more
returns-in-Err-clause-more g c q there = inl (subst (λ l. IsTrue (is_some (lookup (same_id q) l))) c.in-Err.ensures.refused.0 there)
