use Rattle.std.proofs.Common.{◌++◌, ◌∙◌, ap}
use Rattle.gix_revwalk.specs.Held.{entry_of}
use Rattle.gix_history.proofs.history.History.read_listed.Goals as goal

pub returns-clause-read : goal.returns-clause-read
returns-clause-read g c = λ _. record {
  commit = entry_of c.in-Ok-Some.read.commit;
  put = c.in_ok-put.ensures.put;
  listed = c.in_ok-extend_from_slice.ensures.items ∙ ap (λ l. c.args.list.now.items ++ l) c.deref.ensures.value;
}
