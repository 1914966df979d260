use Rattle.std.proofs.Common.{rules}
use Rattle.gix_c.proofs.names.gix_history_name.Goals.{in-Ok-insert, in-Err}
use Rattle.gix_c.proofs.names.gix_history_name.Goals as goal

pub returns-clause-others : goal.returns-clause-others
returns-clause-others c =
    elim c.match-insert.branch [
      | in-Ok-insert w ↦ rw w.result-is (record {
        key = c.in-Ok.name;
        text = search rules;
        entries = rw c.get_mut.ensures.value at w.in-Ok-insert.ensures.entries;
      })
      | in-Err w ↦ rw w.result-is tt
    ]
