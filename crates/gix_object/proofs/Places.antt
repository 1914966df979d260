-- Places of bytes, as memchr finds them.
use Rattle.std.proofs.Common.{◌≡◌, ℕ, ◌==◌, List, length, Some, None, sym, arith}
use Rattle.std.proofs.lemmas.Bool.{false_from_ne_true}
use Rattle.std.proofs.lemmas.List.Sums.{position_or_len_is}
use Rattle.memchr.specs.Find.{IsFirstByte, is_byte}
use Rattle.gix_object.specs.Lines.{place_of}

pub first_place : (byte : ℕ) (text : List ℕ) (k : ℕ) → IsFirstByte (is_byte byte) text (Some k) → k ≡ place_of byte text
unfolding place_of
first_place byte text k is =
    let within = is.0.high in
    sym (position_or_len_is (λ b. b == byte) text k 0 (omega (arith, within)) (λ j before. false_from_ne_true _ (is.0.before j (omega arith) before)) (λ inside. is.1))

pub no_place : (byte : ℕ) (text : List ℕ) → IsFirstByte (is_byte byte) text None → length text ≡ place_of byte text
unfolding place_of
no_place byte text is =
    sym (position_or_len_is (λ b. b == byte) text (length text) 0 (omega arith) (λ j before. false_from_ne_true _ (is j (omega arith) before)) (λ inside. absurd (omega arith)))
