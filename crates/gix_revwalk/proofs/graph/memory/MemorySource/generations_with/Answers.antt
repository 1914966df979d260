use Rattle.std.proofs.Common.{refl, sym, ◌∙◌}
use Rattle.std.specs.List.{All}
use Rattle.gix_revwalk.specs.Held.{entry_of}
use Rattle.gix_revwalk.specs.Stored.{IsUpTo}
use Rattle.gix_revwalk.proofs.Stored.{levelled-more, none-more, not-absent}
use Rattle.gix_revwalk.proofs.graph.memory.MemorySource.generations_with.Goals as goal

pub returns-then-are_absent_with : goal.returns-then-are_absent_with
returns-then-are_absent_with g c id more lacks put =
    let absent = c.are_absent_with.ensures.0 c.if-are_absent_with.true in
    record {
      right = none-more _ more id _ lacks put absent.0 (sym c.unwrap_or-generation.ensures ∙ absent.1);
      absent = λ _. refl;
    }

pub returns-then-are_up_to : goal.returns-then-are_up_to
returns-then-are_up_to g c id more lacks put =
    let parents : All (IsUpTo c.args.self.now c.unwrap_or-generation.result) c.args.commit.now.parents.items
    = rw (← c.deref.ensures.value) (c.are_up_to.ensures c.if-are_up_to.true) in
    record {
      right = levelled-more c.args.self.now more id (entry_of c.args.commit.now) lacks put (c.is_levelled.ensures c.if-is_levelled.true)
          (rw (← c.unwrap_or-generation.ensures) parents);
      absent = not-absent _ more id _ lacks put _ (λ none infinite. cc (c.are_absent_with.ensures.1 (none, c.unwrap_or-generation.ensures ∙ infinite), c.if-are_absent_with.false));
    }

pub returns-else-is_levelled : goal.returns-else-is_levelled
returns-else-is_levelled g c id more lacks put = record {
  right = tt;
  absent = not-absent _ more id _ lacks put _ (λ none infinite. cc (c.are_absent_with.ensures.1 (none, c.unwrap_or-generation.ensures ∙ infinite), c.if-are_absent_with.false));
}
