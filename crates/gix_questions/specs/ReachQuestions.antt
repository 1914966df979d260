-- What the answers about what some commits reach and others do not mean.
use Rattle.std.specs.Prelude.{ℕ, Bool, List, ◌∷◌, [], ◌++◌, IsTrue}
use Rattle.gix_base.specs.declared.hash.ObjectId.{ObjectId}
use Rattle.gix_revwalk.specs.History.{History, IsAncestor, IsAncestorOfOne, is_one_of, IsBeyond}
use Rattle.gix_revwalk.specs.Sizes.{HasSize, AtLeast, AtMost, Lists}
use Rattle.gix_merge_base.specs.Keys.{IsInOrder}
use Rattle.gix_spec.specs.declared.spec.Spec.TheVariants.{Range}
use Rattle.gix_resolve.specs.ListMeaning.{IsMeant}
use Rattle.gix_questions.specs.EarlyAnswers.{Premise}

-- In the history h, the list has each commit that the included ones reach and the excluded ones do
-- not, newest first, each once. All others in it are reached by the included ones. With the premise
-- there are no others (git-rev-list, "Description").
pub record MeansReachable (h : History) (early : Bool) (included excluded ids : List ObjectId) : Type 0 where
  pub reached : Premise early h excluded (included ++ excluded) → Lists ids (IsBeyond h excluded included)
  pub every : (c : ObjectId) → IsBeyond h excluded included c → IsTrue (is_one_of ids c)
  pub shown : (c : ObjectId) → IsTrue (is_one_of ids c) → IsAncestorOfOne h included c
  pub order : IsInOrder h ids

-- In the history h, n is at least the number of commits that the included ones reach and the
-- excluded ones do not, and is that number with the premise. It is at most the number that the
-- included ones reach (git-rev-list, "--count").
pub record MeansCountReachable (h : History) (early : Bool) (included excluded : List ObjectId) (n : ℕ) : Type 0 where
  pub size : Premise early h excluded (included ++ excluded) → HasSize (IsBeyond h excluded included) n
  pub no_less : AtMost n (IsBeyond h excluded included)
  pub no_more : AtLeast n (IsAncestorOfOne h included)

-- In the history h, a is at least the number of commits that only `ours` reaches, and is that
-- number with the premise. It is at most the number that `ours` reaches. The number b counts for
-- `theirs` in the same way (git-rev-list, "--left-right").
pub record MeansAheadBehind (h : History) (early : Bool) (ours theirs : ObjectId) (a b : ℕ) : Type 0 where
  pub ahead : Premise early h (theirs ∷ []) (ours ∷ theirs ∷ []) → HasSize (IsMeant h (Range theirs ours)) a
  pub behind : Premise early h (ours ∷ []) (ours ∷ theirs ∷ []) → HasSize (IsMeant h (Range ours theirs)) b
  pub no_less_ahead : AtMost a (IsMeant h (Range theirs ours))
  pub no_less_behind : AtMost b (IsMeant h (Range ours theirs))
  pub no_more_ahead : AtLeast a (IsAncestor h ours)
  pub no_more_behind : AtLeast b (IsAncestor h theirs)
