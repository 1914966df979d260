-- What painting answers.
use Rattle.std.specs.Prelude.{◌≤◌, ◌+◌, ◌*◌, ◌∷◌, ℕ, List, length, IsTrue}
use Rattle.std.specs.List.{IsDistinct}
use Rattle.gix_base.specs.declared.hash.ObjectId.{ObjectId}
use Rattle.gix_revwalk.specs.History.{History, Has, is_one_of, same_id}
use Rattle.gix_revwalk.specs.Sizes.{AtMost, HasSize}
use Rattle.gix_merge_base.specs.Bases.{IsCommon, IsMaximal}
use Rattle.gix_merge_base.specs.Keys.{InFallingOrder}
use Rattle.gix_merge_base.specs.Painting.{IsUnreached}
use Rattle.gix_merge_base.specs.Premises.{IsAcyclicFrom, KeysFallFrom, NoneRisesFrom}

-- What painting promises of its results and of the number of its pops, for the arguments f and os.
pub record IsPainted (h : History) (f : ObjectId) (os results : List ObjectId) (pops : ℕ) : Type 0 where
  pub common : (c : ObjectId) → IsTrue (is_one_of results c) → IsCommon h f os c
  pub best : IsAcyclicFrom h (f ∷ os) → (c : ObjectId) → IsMaximal h (IsCommon h f os) c → IsTrue (is_one_of results c)
  pub once : IsDistinct same_id results
  -- if the history has n commits
  pub most : (n : ℕ) → HasSize (Has h) n → pops ≤ 3 * n + 1 + length os
  pub least : IsAcyclicFrom h (f ∷ os) → AtMost pops (IsUnreached h f os)
  pub strict : KeysFallFrom h (f ∷ os) → (c : ObjectId) → IsTrue (is_one_of results c) → IsMaximal h (IsCommon h f os) c
  pub falling : NoneRisesFrom h (f ∷ os) → InFallingOrder h results
