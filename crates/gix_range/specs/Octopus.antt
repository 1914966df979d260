-- The best common ancestors of many commits, one commit after another.
use Rattle.std.specs.Prelude.{◌↔◌, List, IsTrue}
use Rattle.gix_base.specs.declared.hash.ObjectId.{ObjectId}
use Rattle.gix_revwalk.specs.History.{History, is_one_of, IsAncestorOfAll, IsAncestorOfOne}
use Rattle.gix_merge_base.specs.Bases.{IsMaximal}

-- The list common has exactly those common ancestors of ids that no other one reaches. Together they
-- reach each common ancestor of ids. One of all reaches each of them.
pub record Meets (h : History) (all ids common : List ObjectId) : Type 0 where
  pub exact : (c : ObjectId) → IsTrue (is_one_of common c) ↔ IsMaximal h (IsAncestorOfAll h ids) c
  pub cover : (c : ObjectId) → IsAncestorOfAll h ids c → IsAncestorOfOne h common c
  pub within : (c : ObjectId) → IsTrue (is_one_of common c) → IsAncestorOfOne h all c
