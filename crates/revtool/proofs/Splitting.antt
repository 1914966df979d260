-- A line and its first space.
use Rattle.std.proofs.Common.{arith, ◌≡◌, ℕ, ◌+◌, ◌-◌, List, [], ◌∷◌, length, Some, None, ap, sym, ◌∙◌}
use Rattle.std.specs.Prelude.{take, drop}
use Rattle.bstr.specs.Find.{IsFirstByte, is_byte}
use Rattle.revtool.specs.Fields.{fields_of, is_space}
use Rattle.std.proofs.lemmas.Bool.{false_from_ne_true}
use Rattle.std.proofs.lemmas.List.{get_or_default, take_rest}
use Rattle.std.proofs.lemmas.List.Splits.{slice_split_first, slice_split_none}
use Rattle.std.proofs.lemmas.List.Sums.{position_or_len_is}

-- If the first space of a line is at place k, then the first field is what comes before it. The
-- other fields are those of what comes after it.
pub fields_of-space : (line : List ℕ) (k : ℕ) → IsFirstByte (is_byte 32) line (Some k) → fields_of line ≡ take k line ∷ fields_of (take (length line - (k + 1)) (drop (k + 1) line))
fields_of-space line k h =
    let first = position_or_len_is is_space line k 0 (omega (arith, h.0.high)) (λ j l. false_from_ne_true _ (h.0.before j (omega arith) l)) (λ _. h.1) in
    slice_split_first is_space line 0 (omega (arith, first, h.0.high))
    ∙ ap (λ n. take n line ∷ fields_of (drop (n + 1) line)) first
    ∙ ap (λ rest. take k line ∷ fields_of rest) (sym (take_rest line (k + 1)))

-- A line without a space has one field, which is the whole line.
pub fields_of-no_space : (line : List ℕ) → IsFirstByte (is_byte 32) line None → fields_of line ≡ line ∷ []
fields_of-no_space line h = slice_split_none is_space line (λ k d l. ap is_space (get_or_default line k d 0 l) ∙ false_from_ne_true _ (h k (omega arith) l))
