-- Ids that the current walk has noted.
use Rattle.std.specs.Prelude.{Bool, None, is_some}
use Rattle.std.specs.Option.{unwrap_or}
use Rattle.std.specs.Map.{lookup}
use Rattle.gix_base.specs.declared.hash.ObjectId.{ObjectId}
use Rattle.gix_revwalk.specs.Graph.{Graphed}
use Rattle.gix_revwalk.specs.History.{same_id}

-- The current walk of graph g has noted q, with whatever count.
abbrev pub noted_at : {S T : Type 0} → Graphed S T → ObjectId → Bool
noted_at g q = is_some (unwrap_or (lookup (same_id q) g.marked) None)
