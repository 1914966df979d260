-- One more tip, and one more answer.
use Rattle.std.proofs.Common.{◌<◌, ◌+◌, ◌++◌, [], ◌∷◌, ℕ, List, Bool, length, take, get_or, sym, subst}
use Rattle.gix_base.specs.declared.hash.ObjectId.{ObjectId}
use Rattle.gix_revwalk.specs.History.{History}
use Rattle.gix_revwalk.proofs.Members.{take_next}
use Rattle.gix_questions.specs.AncestryQuestions.{MeansAncestor, MeanContained}

contained-push : (h : History) (early : Bool) (c : ObjectId) (tips : List ObjectId) (answers : List Bool) (tip : ObjectId) (answer : Bool)
    → MeanContained h early c tips answers → MeansAncestor h early c tip answer → MeanContained h early c (tips ++ (tip ∷ [])) (answers ++ (answer ∷ []))
contained-push h early c [] [] tip answer all one = (one, tt)
contained-push h early c [] (b ∷ bs) tip answer all one = absurd all
contained-push h early c (t ∷ ts) [] tip answer all one = absurd all
contained-push h early c (t ∷ ts) (b ∷ bs) tip answer all one = (all.0, contained-push h early c ts bs tip answer all.1 one)

pub contained-next : (h : History) (early : Bool) (c : ObjectId) (tips : List ObjectId) (i : ℕ) (d : ObjectId) (answers : List Bool) (answer : Bool) → i < length tips
    → MeanContained h early c (take i tips) answers → MeansAncestor h early c (get_or tips i d) answer → MeanContained h early c (take (i + 1) tips) (answers ++ (answer ∷ []))
contained-next h early c tips i d answers answer within all one =
    let P : List ObjectId → Type 0 = λ xs. MeanContained h early c xs (answers ++ (answer ∷ [])) in
    subst P (sym (take_next tips i d within)) (contained-push h early c (take i tips) answers (get_or tips i d) answer all one)
