-- The key by which commits are compared: generation number, then time.
use Rattle.std.specs.Prelude.{◌-◌, ◌^◌}
use Rattle.std.specs.Option.{unwrap_or}
use Rattle.std.specs.Ordering.{nat_cmp, int_cmp, ordering_then}
use Rattle.std.specs.declared.cmp.Ordering.{Ordering}
use Rattle.gix_revwalk.specs.declared.graph.commit.Commit.{Commit}
use Rattle.gix_merge_base.specs.declared.merge_base.gen_then_time.GenThenTime.{GenThenTime}

-- The key of a commit. A missing generation number counts as the greatest u32; git calls it
-- infinity (git's technical/commit-graph, "generation number").
abbrev pub key_of : {D A : Type 0} → Commit D A → GenThenTime
key_of c = record { generation = unwrap_or c.generation (2 ^ 32 - 1); time = c.time }

-- Keys are compared by generation number, then by time.
abbrev pub key_order : GenThenTime → GenThenTime → Ordering
key_order a b = ordering_then (nat_cmp a.generation b.generation) (int_cmp a.time b.time)
