use Rattle.gix_c_core.specs.Behind.{commits_in}
use Rattle.gix_c_core.specs.Noted.{Remembers}
use Rattle.gix_c_core.proofs.Lacking.{noted-more}
use Rattle.gix_c_core.proofs.insert.insert_commit.Goals as goal

pub returns-in-Ok-clause-noted : goal.returns-in-Ok-clause-noted
returns-in-Ok-clause-noted c = λ noted.
    let h = commits_in c.add_id.new.self in
    let ids = c.add_id.new.self.named.items in
    let before : Remembers h ids = rw (c.add_id.ensures.graph, c.add_id.ensures.named, c.get_mut-history.ensures.value) noted in
    rw c.in-Ok.ensures.named (noted-more h (commits_in c.insert.new.self) c.args.id _ c.in-Ok.ensures.new c.in-Ok.ensures.put ids before)
