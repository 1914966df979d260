use Rattle.std.proofs.Common.{sym, ◌∙◌}
use Rattle.gix_c_core.specs.Answers.{id_of}
use Rattle.gix_c_core.proofs.Named.{added-name, known-name}
use Rattle.gix_c_core.proofs.describe.add_name.Goals as goal

pub returns-in_ok-insert : goal.returns-in_ok-insert
returns-in_ok-insert c = added-name c.args.map.now.entries c.insert.new.self.entries (id_of c.args.name.now.id) _ (sym c.contains_key.ensures ∙ c.if-not-contains_key.true) c.in_ok-insert.ensures.updates.0

pub returns-else-not-contains_key : goal.returns-else-not-contains_key
returns-else-not-contains_key c = known-name c.args.map.now.entries (id_of c.args.name.now.id) c.args.name.now.text.now (sym c.contains_key.ensures ∙ c.if-not-contains_key.false)
