-- What comes before and after a byte, as parts.
use Rattle.std.proofs.Common.{◌≡◌, ℕ, ◌+◌, ◌<◌, ◌≤◌, List, [], ◌∷◌, Bool, false, Option, take, drop, length, sym, ap, ◌∙◌, arith}
use Rattle.std.specs.Prelude.{◌==◌}
use Rattle.std.proofs.lemmas.List.{drop-drop, take_all, length-drop}
use Rattle.std.proofs.lemmas.List.Splits.{slice_split_first, slice_split_none}
use Rattle.std.proofs.lemmas.List.Sums.{fails_before_first, position_or_len_is}
use Rattle.std.proofs.lemmas.List.Elements.{All-from_get_or}
use Rattle.std.proofs.lemmas.Bool.{false_from_ne_true}
use Rattle.std.specs.List.{position_or_len}
use Rattle.memchr.specs.Find.{Nowhere, NoneBefore, Passes, is_byte}
use Rattle.gix_ref_text.specs.Lines.{parts, parts_after, tail}

pub first-found : (at k : ℕ) (s : List ℕ) → NoneBefore (Passes (is_byte at) s) 0 (length s) k → Passes (is_byte at) s k
    → k ≡ position_or_len (λ b. b == at) s
first-found at k s none passes =
    sym (position_or_len_is (λ b. b == at) s k 0 (omega (arith, none.high)) (λ j less. false_from_ne_true _ (none.before j (omega arith) less)) (λ less. passes))

pub first-missed : (at : ℕ) (s : List ℕ) → Nowhere (Passes (is_byte at) s) 0 (length s)
    → length s ≡ position_or_len (λ b. b == at) s
first-missed at s none =
    sym (position_or_len_is (λ b. b == at) s (length s) 0 (omega arith) (λ j less. false_from_ne_true _ (none j (omega arith) less)) (λ less. absurd (omega arith)))

cut-found : (at n b : ℕ) (s after : List ℕ) → n ≡ position_or_len (λ b. b == at) s → drop n s ≡ b ∷ after
    → parts at s ≡ take n s ∷ parts at after
cut-found at n b s after e r =
    let p : ℕ → Bool = λ b. b == at in
    let less : position_or_len p s < length s = omega (arith, e, length-drop n s, ap length r) in
    let front : take (position_or_len p s) s ≡ take n s = ap (λ k. take k s) (sym e) in
    let rest : drop (position_or_len p s + 1) s ≡ after = ap (λ k. drop (k + 1) s) (sym e) ∙ sym (drop-drop 1 n s) ∙ ap (drop 1) r in
    slice_split_first p s 0 less ∙ ap (λ x. x ∷ parts at (drop (position_or_len p s + 1) s)) front ∙ ap (λ x. take n s ∷ parts at x) rest

cut-missed : (at n : ℕ) (s : List ℕ) → n ≡ position_or_len (λ b. b == at) s → length s ≤ n → parts at s ≡ take n s ∷ []
cut-missed at n s e more =
    let p : ℕ → Bool = λ b. b == at in
    slice_split_none p s (All-from_get_or (λ x. p x ≡ false) s 0 (λ i less. fails_before_first p s i 0 (omega (arith, e, more, less)))) ∙ ap (λ x. x ∷ []) (sym (take_all n s more))

cut-rest : (at n : ℕ) (s rest : List ℕ) → n ≡ position_or_len (λ b. b == at) s → drop n s ≡ rest
    → parts at s ≡ take n s ∷ parts_after at (tail rest)
cut-rest at n s [] e r = cut-missed at n s e (omega (arith, length-drop n s, ap length r))
cut-rest at n s (b ∷ after) e r = cut-found at n b s after e r

-- A text is what comes before a byte, and the parts that come after it.
pub cut-at : (at n : ℕ) (s front rest : List ℕ) (after : Option (List ℕ)) → n ≡ position_or_len (λ b. b == at) s
    → front ≡ take n s → rest ≡ drop n s → after ≡ tail rest → parts at s ≡ front ∷ parts_after at after
cut-at at n s front rest after e f r a =
    cut-rest at n s rest e (sym r) ∙ ap (λ x. x ∷ parts_after at (tail rest)) (sym f) ∙ ap (λ x. front ∷ parts_after at x) (sym a)
