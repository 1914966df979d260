use Rattle.gix_c_core.proofs.Copied.{one-more}
use Rattle.gix_c_core.proofs.history.History.add_id.Goals as goal

pub returns-clause-ids : goal.returns-clause-ids
returns-clause-ids c = one-more c.args.id c.args.self.now.table.ids c.insert.new.self c.in_ok-insert.ensures.updates.0
