-- Whether a text is the digits of an id.
use Rattle.std.proofs.Common.{◌≡◌, ℕ, List, Bool, true, false, cond, Some, None, length, take, ◌<◌, refl, ap, sym, ◌∙◌, eq-eqb, arith}
use Rattle.std.proofs.lemmas.List.{take_all}
use Rattle.std.specs.Prelude.{◌==◌, ◌&&◌}
use Rattle.std.specs.Cmp.Derive.{both_true}
use Rattle.std.proofs.lemmas.Bool.{eqb-true, false_from_ne_true, false≢true}
use Rattle.std.proofs.lemmas.List.Sums.{list_all-from_AllPass, AllPass-from_list_all}
use Rattle.hex.specs.Hex.{is_hex_digit}
use Rattle.gix_base.specs.Digits.{bytes_of}
use Rattle.gix_base.specs.Hash.{IsIdText}
use Rattle.gix_ref_text.specs.Lines.{is_id, id_of}

fst-true : (a b : Bool) → (a && b) ≡ true → a ≡ true
fst-true true b h = refl
fst-true false b h = h

snd-true : (a b : Bool) → (a && b) ≡ true → b ≡ true
snd-true true b h = h
snd-true false true h = refl
snd-true false false h = h

pub read : (text id : List ℕ) → IsIdText text → id ≡ bytes_of text → Some id ≡ id_of text
read text id digits e =
    let yes : is_id text ≡ true = both_true (eq-eqb (length text) 40 digits.0) (list_all-from_AllPass is_hex_digit text digits.1) in
    ap (λ x. Some x) e ∙ ap (λ b. cond b (Some (bytes_of text)) None) (sym yes)

pub refused : (text : List ℕ) → (IsIdText text → false ≡ true) → None ≡ id_of text
refused text none =
    let f : is_id text ≡ false = false_from_ne_true (is_id text) (λ yes.
    false≢true (none (eqb-true (length text) 40 (fst-true _ _ yes), AllPass-from_list_all is_hex_digit text (snd-true (length text == 40) _ yes)))) in
    ap (λ b. cond b (Some (bytes_of text)) None) (sym f)

-- A text that is too short has no id at its front.
pub short : (text : List ℕ) → length text < 40 → None ≡ id_of (take 40 text)
short text less = refused text (λ digits. absurd (omega (arith, digits.0))) ∙ ap (λ x. id_of x) (sym (take_all 40 text (omega arith)))
