use Rattle.std.proofs.Common.{◌≡◌, ◌≤◌, ◌++◌, length}
use Rattle.std.specs.Prelude.{All}
use Rattle.gix_base.specs.Prefix.{BeginsWith}
use Rattle.gix_odb.proofs.completions.first_ids.Given as goal

abbrev pub invariant-ids : goal.invariant-ids
invariant-ids g l = record {
  begin : All (λ id. BeginsWith id l.prefix) l.ids.items;
  whole : l.ids.items ++ l.all.keys ≡ l.initial.all.keys;
  few : length l.ids.items ≤ l.most;
}

abbrev pub decreases-ids : goal.decreases-ids
decreases-ids g l = length l.all.keys
