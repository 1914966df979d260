use Rattle.std.proofs.Common.{subst, IsTrue, ◌↔◌}
use Rattle.gix_base.specs.declared.hash.ObjectId.{ObjectId}
use Rattle.gix_revwalk.specs.History.{Has, is_one_of}
use Rattle.gix_questions.proofs.Early.{means-sorted}
use Rattle.gix_questions.proofs.reach.newest_beyond.Goals as goal

pub returns-in-Ok-newest_first : goal.returns-in-Ok-newest_first
returns-in-Ok-newest_first g c =
    let h = g.S.Find.history c.args.graph.now.source in
    let found = c.in-Ok.ensures in
    let sorted = c.in-Ok-newest_first.ensures in
    let is = found.after.graph.same_history in
    means-sorted h c.args.include.now c.args.exclude.now c.in-Ok.ids.items c.in-Ok-newest_first.sorted.items found.reached found.covers (rw is at sorted.order)
    (subst (λ l. (x : ObjectId) → IsTrue (is_one_of c.in-Ok-newest_first.sorted.items x) ↔ (IsTrue (is_one_of l x) × Has h x)) c.deref.ensures.value (rw is at sorted.same))
