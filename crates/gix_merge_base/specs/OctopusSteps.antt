-- How an octopus goes from head to head: with each head it follows every base that it has.
use Rattle.std.specs.Prelude.{◌≡◌, List, ◌∷◌, IsTrue}
use Rattle.gix_base.specs.declared.hash.ObjectId.{ObjectId}
use Rattle.gix_revwalk.specs.History.{History, is_one_of, IsAncestor, IsAncestorOfOne}
use Rattle.gix_merge_base.specs.Premises.{GenerationsNeverRiseFrom}
use Rattle.gix_merge_base.specs.Bases.{IsCommon}

-- No member of ids is an ancestor of another member.
abbrev pub AreApart : History → List ObjectId → Type 0
AreApart h ids = (c d : ObjectId) → IsTrue (is_one_of ids c) → IsTrue (is_one_of ids d) → IsAncestor h c d → c ≡ d

-- Each of ys is an ancestor of o and of one of bs, and each such ancestor is an ancestor of one of
-- ys. If o and bs have ordered generations, then no member of ys is an ancestor of another member.
pub record IsStep (h : History) (bs : List ObjectId) (o : ObjectId) (ys : List ObjectId) : Type 0 where
  pub common : (c : ObjectId) → IsTrue (is_one_of ys c) → IsCommon h o bs c
  pub below : (c : ObjectId) → IsCommon h o bs c → IsAncestorOfOne h ys c
  pub apart : GenerationsNeverRiseFrom h (o ∷ bs) → AreApart h ys
