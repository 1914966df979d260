use Rattle.std.proofs.Common.{ap, subst, ◌∙◌, ◌≤◌}
use Rattle.std.proofs.lemmas.Bool.{leb-true}
use Rattle.std.specs.Option.{option_map}
use Rattle.gix_revwalk.specs.Held.{entry_of}
use Rattle.gix_revwalk.proofs.Sources.{entry_at-history_of}
use Rattle.gix_revwalk.proofs.Stored.{is-up_to}
use Rattle.gix_revwalk.proofs.graph.memory.MemorySource.is_up_to.Goals as goal

pub returns-in-Some : goal.returns-in-Some
returns-in-Some g c le =
    rw (← c.self.view_is)
    (is-up_to _ c.args.generation c.args.id (entry_of c.in-Some.commit.now) (ap (option_map entry_of) c.in-Some.ensures.value ∙ entry_at-history_of _ c.args.id)
    (subst (λ n. n ≤ c.args.generation) c.unwrap_or.ensures (leb-true _ _ le)))
