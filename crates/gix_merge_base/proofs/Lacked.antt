-- An id that the history lacks, among the others of merge bases.
use Rattle.std.proofs.Common.{◌≡◌, true, false, refl, sym, subst, ◌∙◌, List, [], ◌∷◌, ◌++◌, inl, inr, IsTrue, ◌↔◌, not, MatchBool, ◌||◌, ap}
use Rattle.std.proofs.lemmas.List.Folds.{list_any-append}
use Rattle.gix_base.specs.declared.hash.ObjectId.{ObjectId}
use Rattle.gix_revwalk.specs.History.{History, same_id, is_one_of, Has}
use Rattle.gix_merge_base.specs.Bases.{IsCommon, IsMaximal, IsBase, is_trivial}
use Rattle.gix_revwalk.specs.Sizes.{is_empty}
use Rattle.gix_revwalk.proofs.Ids.{same_id-true}
use Rattle.gix_revwalk.proofs.Members.{one_of-left, one_of-right, one_of-cases, one_of-tail, one_of-cons_cases}
use Rattle.gix_revwalk.proofs.Ancestors.{has_ancestor}

-- sets with the same members have the same maximal ones
pub same-maximal : (h : History) (S T : ObjectId → Type 0) → ((c : ObjectId) → S c ↔ T c) → (c : ObjectId) → IsMaximal h S c → IsMaximal h T c
same-maximal h S T same c m = ((same c).0 m.0, λ t s a. m.1 t ((same t).1 s) a)

module _ (h : History) (f lacked : ObjectId) (before after : List ObjectId) (absent : Has h lacked → ⊥) where
  in_longer : (o : ObjectId) → IsTrue (is_one_of (before ++ after) o) → IsTrue (is_one_of (before ++ lacked ∷ after) o)
  in_longer o m =
      elim (one_of-cases before after o m) as (λ _. IsTrue (is_one_of (before ++ lacked ∷ after) o)) [
        | inl k ↦ one_of-left before (lacked ∷ after) o k
        | inr k ↦ one_of-right before (lacked ∷ after) o (one_of-tail lacked after o k)
      ]

  in_shorter : (o : ObjectId) → Has h o → IsTrue (is_one_of (before ++ lacked ∷ after) o) → IsTrue (is_one_of (before ++ after) o)
  in_shorter o has m =
      elim (one_of-cases before (lacked ∷ after) o m) as (λ _. IsTrue (is_one_of (before ++ after) o)) [
        | inl k ↦ one_of-left before after o k
        | inr k ↦ elim (one_of-cons_cases lacked after o k) as (λ _. IsTrue (is_one_of (before ++ after) o)) [
          | inl e ↦ absurd (absent (subst (λ z. Has h z) e has))
          | inr r ↦ one_of-right before after o r
        ]
      ]

  same-common : (c : ObjectId) → IsCommon h f (before ++ lacked ∷ after) c ↔ IsCommon h f (before ++ after) c
  same-common c = (
    (λ s. (s.0, (s.1.0, in_shorter s.1.0 (has_ancestor h s.1.0 c s.1.2).1 s.1.1, s.1.2))),
    (λ s. (s.0, (s.1.0, in_longer s.1.0 s.1.1, s.1.2))),
  )

  other-common : (c : ObjectId) → IsCommon h f (before ++ after) c ↔ IsCommon h f (before ++ lacked ∷ after) c
  other-common c = ((same-common c).1, (same-common c).0)

  same-plain : (lacked ≡ f → ⊥) → IsTrue (not (is_empty (before ++ after))) → is_trivial f (before ++ lacked ∷ after) ≡ is_trivial f (before ++ after)
  same-plain differs some =
      let other : same_id f lacked ≡ false = elim (same_id f lacked) as (λ b. same_id f lacked ≡ b → b ≡ false) [ true ↦ λ e. absurd (differs (sym (same_id-true f lacked e))) | false ↦ λ e. refl ] refl in
      ap (λ b. b || is_one_of (before ++ lacked ∷ after) f) (longer before) ∙ list_any-append (same_id f) before (lacked ∷ after) ∙ ap (λ b. is_one_of before f || (b || is_one_of after f)) other
      ∙ sym (list_any-append (same_id f) before after) ∙ ap (λ b. b || is_one_of (before ++ after) f) (sym (not_empty (before ++ after) some))
    where
      longer : (xs : List ObjectId) → is_empty (xs ++ lacked ∷ after) ≡ false
      longer [] = refl
      longer (x ∷ xs) = refl

      not_empty : (xs : List ObjectId) → IsTrue (not (is_empty xs)) → is_empty xs ≡ false
      not_empty [] h = cc
      not_empty (x ∷ xs) h = refl

  pub same-bases : (lacked ≡ f → ⊥) → IsTrue (not (is_empty (before ++ after))) → (c : ObjectId) → IsBase h f (before ++ lacked ∷ after) c ↔ IsBase h f (before ++ after) c
  same-bases differs some c =
      rw (same-plain differs some) (elim (is_trivial f (before ++ after)) as (λ b. MatchBool b (c ≡ f) (IsMaximal h (IsCommon h f (before ++ lacked ∷ after)) c) ↔ MatchBool b (c ≡ f) (IsMaximal h (IsCommon h f (before ++ after)) c)) [
        | true ↦ ((λ e. e), (λ e. e))
        | false ↦ (same-maximal h (IsCommon h f (before ++ lacked ∷ after)) (IsCommon h f (before ++ after)) same-common c, same-maximal h (IsCommon h f (before ++ after)) (IsCommon h f (before ++ lacked ∷ after)) other-common c)
      ])
