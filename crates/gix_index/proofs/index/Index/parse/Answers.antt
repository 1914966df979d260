use Rattle.std.proofs.Common.{rules}
use Rattle.gix_index.proofs.Entries.{whole_index}
use Rattle.gix_index.proofs.index.Index.parse.Goals as goal

pub returns : goal.returns
returns g c = record {
  entries = whole_index _ _ _ _ _ _ _ c.in_ok-version.ensures c.split_at.ensures.front c.behind.ensures c.in_ok-entries.ensures.entries c.in_ok-entries.ensures.count;
  inside = search rules;
}
