-- The first digits of an id, and which ids begin with them.
use Rattle.std.proofs.Common.{◌≡◌, ◌∙◌, refl, ap, sym, subst, ℕ, ◌≤◌, ◌<◌, ◌+◌, List, [], ◌∷◌, inl, inr, true, Bool, IsTrue, take, arith}
use Rattle.std.proofs.Math.Nat.{eq-or-lt_of_le}
use Rattle.std.proofs.lemmas.List.{length-take, take-map}
use Rattle.std.proofs.lemmas.List.Elements.{All-take}
use Rattle.std.specs.Char.{to_ascii_lowercase}
use Rattle.std.specs.List.{filter, IsDistinct}
use Rattle.std.specs.Prelude.{◌↔◌}
use Rattle.std.specs.Str.{str_to_ascii_lowercase}
use Rattle.hex.specs.Hex.{is_hex_digit}
use Rattle.gix_base.specs.Digits.{digits_of}
use Rattle.gix_base.specs.Hash.{id_text, IsId}
use Rattle.gix_base.specs.Prefix.{IsPrefixText}
use Rattle.gix_base.specs.declared.hash.ObjectId.{ObjectId}
use Rattle.gix_base.proofs.ReadBack.{AreDigits-digits_of, lower-digits_of, length-id_text}
use Rattle.gix_resolve.specs.Found.{found_in, StandOnce}
use Rattle.gix_revwalk.specs.History.{is_one_of, same_id}
use Rattle.gix_revwalk.proofs.Ids.{same_id-true, same_id-itself}
use Rattle.gix_revwalk.proofs.Members.{one_of-cons_cases, one_of-filter, one_of-filtered, one_of-head, one_of-tail, distinct_filter}
use Rattle.gix_c_core.specs.Abbreviated.{is_only}

-- the first digits of an id can be read as a prefix
pub front-is : (id : ObjectId) → IsId id → (n : ℕ) → 4 ≤ n → n ≤ 40 → IsPrefixText (take n (id_text id))
front-is id is n least most =
    let long = length-id_text id is in
    let front = length-take n (id_text id) in
    (omega (arith, long, front, least, most), omega (arith, long, front, least, most), All-take (λ byte. is_hex_digit byte ≡ true) n (digits_of id.0) (AreDigits-digits_of id.0 is.1))

-- they are in lower case
pub front-lower : (id : ObjectId) → IsId id → (n : ℕ) → str_to_ascii_lowercase (take n (id_text id)) ≡ take n (id_text id)
front-lower id is n = sym (take-map to_ascii_lowercase n (digits_of id.0)) ∙ ap (take n) (lower-digits_of id.0 is.1)

apart : (x y : ObjectId) (more : List ObjectId) → IsDistinct same_id (x ∷ y ∷ more) → x ≡ y → ⊥
unfolding IsDistinct
apart x y more once same = cc (once.0.0, subst (λ (z : ObjectId). same_id x z ≡ true) same (same_id-itself x))

-- of what was found nothing is another id
only : (found : List ObjectId) (id : ObjectId) → IsDistinct same_id found
    → IsTrue (is_only (found_in found) id) ↔ ((q : ObjectId) → IsTrue (is_one_of found q) → IsTrue (same_id q id))
only [] id once = (λ _ q m. cc, λ _. refl)
only (x ∷ []) id once = (
  λ is q m. elim (one_of-cons_cases x [] q m) as (λ _. IsTrue (same_id q id)) [
    | inl same ↦ subst (λ (z : ObjectId). IsTrue (same_id z id)) (sym same) is
    | inr none ↦ cc
  ],
  λ all. all x (one_of-head x []),
)
only (x ∷ y ∷ more) id once = (
  λ is. cc,
  λ all.
      let first = same_id-true x id (all x (one_of-head x (y ∷ more))) in
      let second = same_id-true y id (all y (one_of-tail x (y ∷ more) y (one_of-head y more))) in
      absurd (apart x y more once (first ∙ sym second)),
)

-- so it is of those ids that begin with the digits
pub alone-by : (p : ObjectId → Bool) (ids : List ObjectId) (id : ObjectId) → StandOnce ids
    → IsTrue (is_only (found_in (filter p ids)) id) ↔ ((q : ObjectId) → IsTrue (is_one_of ids q) → IsTrue (p q) → IsTrue (same_id q id))
alone-by p ids id once =
    let found = only (filter p ids) id (distinct_filter p ids once) in (
      λ is q m b. found.0 is q (one_of-filtered p ids q m b),
      λ all. found.1 (λ q m. let at = one_of-filter p ids q m in all q at.0 at.1),
    )

-- what no number below len is, no number up to len is, where len is not
pub none-next : (P : ℕ → Type 0) (least len : ℕ) → ((m : ℕ) → least ≤ m → m < len → P m → ⊥) → (P len → ⊥) → (m : ℕ) → least ≤ m → m < len + 1 → P m → ⊥
none-next P least len none not m from to = elim (eq-or-lt_of_le {n = m} {m = len} (omega (arith, to))) as (λ _. P m → ⊥) [
  | inl same ↦ λ p. not (subst P same p)
  | inr less ↦ none m from less
]
