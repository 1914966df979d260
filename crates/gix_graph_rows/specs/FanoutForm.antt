-- A fanout table that was read alone (gitformat-commit-graph, "OID Fanout").
use Rattle.std.specs.Prelude.{ℕ, ◌<◌, ◌≤◌, List, length}
use Rattle.gix_ids.specs.TableBytes.{word}
use Rattle.gix_ids.specs.TableForm.{Fans}
use Rattle.gix_ids.specs.declared.table.Table.{Table}

-- The fanout table at the start of some bytes. Its last number is the number of ids.
abbrev pub fanout_in : List ℕ → Table
fanout_in bytes = record { count = word bytes 1020; fanout = 0; ids = 0 }

-- The bytes have a fanout table that never falls.
pub record IsFanout (bytes : List ℕ) : Type 0 where
  pub whole : 1024 ≤ length bytes
  pub fans : (b : ℕ) → b < 256 → Fans bytes (fanout_in bytes) b
