-- Which bytes of a text are no hex digits.
use Rattle.std.proofs.Common.{◌≡◌, Result, Ok, [], ℕ, ◌-◌, ◌*◌, List, ◌++◌, length, drop, replicate, slice_index, get_or, true, Err, refl, sym, ◌∙◌, arith, inl, inr}
use Rattle.std.proofs.lemmas.Bool.{cases_lt}
use Rattle.std.proofs.lemmas.List.{get_or_default, get_or_append_left, length-append}
use Rattle.std.proofs.lemmas.List.Elements.{All-drop, All-replicate}
use Rattle.std.proofs.Math.Seq.{get_or-append_right}
use Rattle.std.specs.Result.{result_unwrap_or}
use Rattle.hex.specs.Hex.{decode_of, decode_sized, is_hex_digit, IsBytes}
use Rattle.hex.specs.declared.error.FromHexError.{FromHexError}
use Rattle.hex.proofs.HexLemmas.{decode_of-ok, decode_of-err, decode_sized-twice}
use Rattle.gix_base.specs.Digits.{AreDigits, HasOther, bytes_of}
use Rattle.gix_base.specs.Hash.{padded}

-- a text of digits has no other byte
pub AreDigits-other : (text : List ℕ) → AreDigits text → HasOther text → ⊥
AreDigits-other text digits other =
    let is : is_hex_digit other.1 ≡ true = rw other.3 at (digits other.0 other.1 other.2) in
    cc (sym is ∙ other.4)

-- a text of the right length that is refused has one
pub HasOther-refused : (text : List ℕ) (n : ℕ) (e : FromHexError) → length text ≡ 2 * n → decode_sized text n ≡ Err e → HasOther text
HasOther-refused text n e long refused =
    elim (decode_of-err text e (sym (decode_sized-twice text n long) ∙ refused)) [
      | inl odd ↦ absurd (omega (arith, odd.0, long))
      | inr found ↦
          (found.0, slice_index text found.0, found.2, get_or_default text found.0 (slice_index text found.0) 0 found.2, found.3)
    ]

-- filling up adds none
pub HasOther-padded : (text : List ℕ) → HasOther (padded text) → HasOther text
HasOther-padded text other =
    let P : ℕ → Type 0 = λ x. is_hex_digit x ≡ true in
    let zeros : List ℕ = drop (length text) (replicate 40 48) in
    let all : get_or (text ++ zeros) other.0 other.1 ≡ other.1 = other.3 in
    elim (cases_lt other.0 (length text)) as (λ _. HasOther text) [
      | inl below ↦
          let at : get_or text other.0 other.1 ≡ other.1 = sym (get_or_append_left text zeros other.1 other.0 below) ∙ all in
          (other.0, other.1, below, at, other.4)
      | inr past ↦
          let digit = All-drop P (length text) (replicate 40 48) (All-replicate P 40 48 refl) (other.0 - length text) other.1 (omega (arith, length-append text zeros, past, other.2)) in
          let at : get_or zeros (other.0 - length text) other.1 ≡ other.1 = sym (get_or-append_right text zeros other.0 other.1 past) ∙ all in
          let is : is_hex_digit other.1 ≡ true = rw at at digit in
          absurd (cc (sym is ∙ other.4))
    ]

-- what digits say is bytes
pub IsBytes-bytes_of : (text : List ℕ) → IsBytes (bytes_of text)
IsBytes-bytes_of text = go (decode_of text) refl
  where
    go : (r : Result (List ℕ) FromHexError) → decode_of text ≡ r → IsBytes (result_unwrap_or r [])
    go (Ok bytes) e = (decode_of-ok text bytes e).3
    go (Err why) e = λ i. omega arith
