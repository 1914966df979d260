-- The ancestors of a commit are the least set.
use Rattle.std.proofs.Common.{Bool}
use Rattle.gix_base.specs.declared.hash.ObjectId.{ObjectId}
use Rattle.gix_revwalk.specs.History.{History, Has, IsEdge, IsAncestor}
use Rattle.gix_revwalk.specs.History.IsAncestor.{itself, further}
use Rattle.gix_merge_base.specs.HistoryLaws.{Passes}

pub least : (h : History) (a : ObjectId) (set : ObjectId → Bool) → (Has h a → Passes set a) → ((b c : ObjectId) → Passes set b → IsEdge h b c → Passes set c)
    → (c : ObjectId) → IsAncestor h a c → Passes set c
least h a set start go c (itself has) = start has
least h a set start go c (further b c' p e) = go b c (least h a set start go b p) e
