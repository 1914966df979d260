-- Once all that is left is marked, no later commit of the order is late.
use Rattle.std.proofs.Common.{◌≡◌, refl, ap, sym, subst, ◌∙◌, List, [], ◌∷◌, ◌++◌, ◌⊎◌, inl, inr, length, take, arith, append_assoc}
use Rattle.std.specs.List.{IsDistinct}
use Rattle.std.proofs.lemmas.List.{take_all, append-nil}
use Rattle.gix_base.specs.declared.hash.ObjectId.{ObjectId}
use Rattle.gix_revwalk.specs.History.{History, same_id, is_one_of, IsEdge}
use Rattle.gix_describe.specs.Order.{Ranking, IsUnlisted, GoesOn, Reaches, IsLate}
use Rattle.gix_describe.specs.Order.GoesOn.{ended, next}
use Rattle.gix_revwalk.proofs.Members.{one_of-left, one_of-cases, one_of-single}
use Rattle.gix_describe.proofs.Early.{In}
use Rattle.gix_describe.proofs.Exact.{Exact, exact_marked}

pub goes_on_from : (ranks : Ranking) (h : History) (s : ObjectId) (xs zs : List ObjectId) → GoesOn ranks h s xs zs → (rest : List ObjectId) × (zs ≡ xs ++ rest)
goes_on_from ranks h s xs zs (ended xs' none) = ([], sym (append-nil xs))
goes_on_from ranks h s xs zs (next xs' zs' c u best more) = let r = goes_on_from ranks h s (xs ++ c ∷ []) zs more in (c ∷ r.0, r.1 ∙ append_assoc xs (c ∷ []) r.0)

settles : (ranks : Ranking) (h : History) (s : ObjectId) (xs zs : List ObjectId) (t : ObjectId) (Marked : ObjectId → Type 0) (late : List ObjectId) → GoesOn ranks h s xs zs → Exact h zs xs t Marked late → ((c : ObjectId) → IsUnlisted h xs c → Marked c)
    → (c : ObjectId) → In zs c → In late c ⊎ Reaches h zs t c
settles ranks h s xs zs t Marked late (ended xs' none) at all = at.on_time
settles ranks h s xs zs t Marked late (next xs' zs' x u best more) at all =
    let r = goes_on_from ranks h s (xs ++ x ∷ []) zs more in
    let After : ObjectId → Type 0 = λ c. Marked c ⊎ (Marked x × IsEdge h x c) in
    settles ranks h s (xs ++ x ∷ []) zs t After late more
    (exact_marked h zs xs r.0 x (r.1 ∙ append_assoc xs (x ∷ []) r.0) u.0 t Marked After late at (λ c m. inl m) (λ c m. m) (λ c m e. inr (m, e)) (all x u))
    (λ c k. elim (one_of-cases xs (x ∷ []) k.1 k.2) as (λ _. Marked c ⊎ (Marked x × IsEdge h x c)) [
      | inl l ↦ inl (all c ((λ m. k.0 (one_of-left xs (x ∷ []) c m)), k.1, l, k.3))
      | inr m ↦ inr (all x u, subst (λ z. IsEdge h z c) (one_of-single x k.1 m) k.3)
    ])

-- then the count is that over all places
pub count_is_final : (ranks : Ranking) (h : History) (s : ObjectId) (xs zs : List ObjectId) (t : ObjectId) (Marked : ObjectId → Type 0) (late : List ObjectId) → GoesOn ranks h s xs zs → Exact h zs xs t Marked late → ((c : ObjectId) → IsUnlisted h xs c → Marked c)
    → IsDistinct same_id late → ((c : ObjectId) → In late c → In xs c) → IsLate h zs t (length zs) (length late)
count_is_final ranks h s xs zs t Marked late goes at all once within =
    let whole : take (length zs) zs ≡ zs = take_all (length zs) zs (omega arith) in
    let r = goes_on_from ranks h s xs zs goes in (
      late,
      (
        once,
        λ c. (
          (λ m. (ap (λ l. is_one_of l c) (whole ∙ r.1) ∙ one_of-left xs r.0 c (within c m), at.late_not c m)),
          (λ k. elim (settles ranks h s xs zs t Marked late goes at all c (ap (λ l. is_one_of l c) (sym whole) ∙ k.0)) as (λ _. In late c) [ inl l ↦ l | inr q ↦ absurd (k.1 q) ]),
        ),
      ),
      refl,
    )
