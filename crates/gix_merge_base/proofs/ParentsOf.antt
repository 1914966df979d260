-- The parents of the ids of a list.
use Rattle.std.proofs.Common.{◌≡◌, ℕ, refl, ap, sym, subst, ◌∙◌, List, [], ◌∷◌, ◌++◌, ◌<◌, ◌+◌, length, take, get_or}
use Rattle.gix_base.specs.declared.hash.ObjectId.{ObjectId}
use Rattle.gix_revwalk.specs.History.{History, entry_at, parents_in}
use Rattle.gix_revwalk.specs.Walks.{parents_of_all}
use Rattle.gix_revwalk.proofs.Members.{take_next}
use Rattle.gix_merge_base.specs.PaintSteps.{Hands}
use Rattle.gix_merge_base.specs.Marks.{MarkSet, met}
use Rattle.gix_merge_base.proofs.Handing.{hands_more}

parents-push : (h : History) (xs : List ObjectId) (x : ObjectId) → parents_of_all h (xs ++ x ∷ []) ≡ parents_of_all h xs ++ parents_in (entry_at h x)
parents-push h [] x = nil_right (parents_in (entry_at h x))
  where
    nil_right : (l : List ObjectId) → l ++ [] ≡ l
    nil_right [] = refl
    nil_right (y ∷ l) = ap (λ z. y ∷ z) (nil_right l)
parents-push h (y ∷ xs) x = ap (λ l. parents_in (entry_at h y) ++ l) (parents-push h xs x) ∙ assoc (parents_in (entry_at h y)) (parents_of_all h xs) (parents_in (entry_at h x))
  where
    assoc : (a b c : List ObjectId) → a ++ (b ++ c) ≡ (a ++ b) ++ c
    assoc [] b c = refl
    assoc (y ∷ a) b c = ap (λ z. y ∷ z) (assoc a b c)

-- the parents of one id more
pub meets-next : (h : History) (ids : List ObjectId) (i : ℕ) (d : ObjectId) (m m1 m2 : ObjectId → MarkSet) (q q1 q2 : List ObjectId) → i < length ids
    → Hands h met (parents_of_all h (take i ids)) m q m1 q1 → Hands h met (parents_in (entry_at h (get_or ids i d))) m1 q1 m2 q2 → Hands h met (parents_of_all h (take (i + 1) ids)) m q m2 q2
meets-next h ids i d m m1 m2 q q1 q2 below a b =
    subst (λ l. Hands h met l m q m2 q2) (sym (ap (parents_of_all h) (take_next ids i d below) ∙ parents-push h (take i ids) (get_or ids i d)))
    (hands_more h met (parents_of_all h (take i ids)) (parents_in (entry_at h (get_or ids i d))) m m1 m2 q q1 q2 a b)
