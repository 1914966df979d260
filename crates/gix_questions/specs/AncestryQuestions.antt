-- What the answers about ancestry mean.
use Rattle.std.specs.Prelude.{◌≡◌, ◌↔◌, Bool, List, ◌∷◌, [], IsTrue, is_some}
use Rattle.gix_base.specs.declared.hash.ObjectId.{ObjectId}
use Rattle.gix_revwalk.specs.History.{History, IsAncestor, entry_at, same_id}
use Rattle.gix_questions.specs.EarlyAnswers.{Premise}

-- In the history h, `answer` is true only if commit a is an ancestor of o, and exactly then with the
-- premise of an answer about o. For equal ids it says whether h has the commit (git-merge-base,
-- "--is-ancestor").
pub record MeansAncestor (h : History) (early : Bool) (a o : ObjectId) (answer : Bool) : Type 0 where
  pub exact : Premise early h (o ∷ []) (o ∷ []) → IsTrue answer ↔ IsAncestor h o a
  pub reached : IsTrue answer → IsAncestor h o a
  pub itself : IsTrue (same_id a o) → answer ≡ is_some (entry_at h o)

-- There is an answer for each tip, in order. Each means of c and its tip what `MeansAncestor` says
-- (git-for-each-ref, "--contains").
abbrev pub MeanContained : History → Bool → ObjectId → List ObjectId → List Bool → Type 0
MeanContained h early c [] [] = Unit {0}
MeanContained h early c (tip ∷ tips) (one ∷ answers) = MeansAncestor h early c tip one × MeanContained h early c tips answers
MeanContained h early c _ _ = ⊥
