use Rattle.std.proofs.Common.{sym, ◌∙◌}
use Rattle.gix_merge_base.proofs.merge_base.hand.open_without.Goals as goal

pub returns-else-is_stale : goal.returns-else-is_stale
returns-else-is_stale c = let fresh = sym c.is_stale.ensures ∙ c.if-is_stale.false in rw fresh c.saturating_sub.ensures
