use Rattle.gix_index.proofs.Entries.{no_entries, next_entry, one_more}
use Rattle.std.proofs.Common.{ap, length}
use Rattle.gix_index.proofs.index.read_entries.Goals as goal

pub loop-number-init : goal.loop-number-init
loop-number-init g c = record {
  entries = no_entries _ _ _ c.new-entries.ensures.items;
  count = ap length c.new-entries.ensures.items;
}

pub loop-number-preserved : goal.loop-number-preserved
loop-number-preserved g c = record {
  entries = next_entry _ _ _ _ _ _ _ _ _ c.loop-number.invariant.entries c.last_path.ensures _ c.in_ok-found.ensures.entry c.in-Some.is c.in_ok-push.ensures.items c.behind-rest.ensures;
  count = one_more _ _ _ _ c.in_ok-push.ensures.items c.loop-number.invariant.count;
}
