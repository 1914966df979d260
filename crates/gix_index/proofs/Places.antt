-- Places of bytes that are 0, as memchr finds them.
use Rattle.std.proofs.Common.{◌≡◌, ℕ, ◌==◌, List, length, Some, None, sym, arith}
use Rattle.std.proofs.lemmas.Bool.{false_from_ne_true}
use Rattle.std.proofs.lemmas.List.Sums.{position_or_len_is}
use Rattle.memchr.specs.Find.{IsFirstByte, is_byte}
use Rattle.gix_index.specs.IndexBytes.{place_of_nul}

pub first_place : (text : List ℕ) (k : ℕ) → IsFirstByte (is_byte 0) text (Some k) → k ≡ place_of_nul text
unfolding place_of_nul
first_place text k is =
    let within = is.0.high in
    sym (position_or_len_is (λ b. b == 0) text k 0 (omega (arith, within)) (λ j before. false_from_ne_true _ (is.0.before j (omega arith) before)) (λ inside. is.1))

pub no_place : (text : List ℕ) → IsFirstByte (is_byte 0) text None → length text ≡ place_of_nul text
unfolding place_of_nul
no_place text is =
    sym (position_or_len_is (λ b. b == 0) text (length text) 0 (omega arith) (λ j before. false_from_ne_true _ (is j (omega arith) before)) (λ inside. absurd (omega arith)))
