-- The words and letters that are left.
use Rattle.std.proofs.Common.{◌≡◌, ◌+◌, ◌<◌, ℕ, List, [], ◌∷◌, Some, length, drop, refl, sym, ◌∙◌, ap, arith, get_or, suc, zero}
use Rattle.std.specs.Borrow.{Bor}
use Rattle.std.proofs.lemmas.Bool.{ne_eqb}
use Rattle.std.proofs.lemmas.List.{drop-drop}
use Rattle.std.specs.Prelude.{cond, nat_eq, ◌≢◌, ◌-◌}
use Rattle.parse_options.specs.declared.reader.Reader.TheInside.{Inside}
use Rattle.parse_options.specs.Line.{Line, left}
use Rattle.parse_options.specs.Reader.{texts, text_at, first, line_of}

pub drop_more : {X : Type 0} (n : ℕ) (xs : List X) → drop (n + 1) xs ≡ drop 1 (drop n xs)
drop_more n xs = sym (drop-drop 1 n xs)

pub first_drop : (ws : List (Bor (List ℕ))) (n : ℕ) (d : Bor (List ℕ)) → n < length ws → Some (get_or ws n d).now ≡ first (drop n (texts ws))
first_drop [] n d l = absurd (omega arith)
first_drop (w ∷ ws) zero d l = refl
first_drop (w ∷ ws) (suc n) d l = first_drop ws n d (omega arith)

pub words_drop : (ws : List (Bor (List ℕ))) (n : ℕ) (d : Bor (List ℕ)) → n < length ws → drop n (texts ws) ≡ (get_or ws n d).now ∷ drop 1 (drop n (texts ws))
words_drop [] n d l = absurd (omega arith)
words_drop (w ∷ ws) zero d l = refl
words_drop (w ∷ ws) (suc n) d l = words_drop ws n d (omega arith)

letters_more : (k : ℕ) (w : List ℕ) → k ≢ 0 → cond (nat_eq (k + 1) 0) [] (drop (k + 1) w) ≡ drop 1 (cond (nat_eq k 0) [] (drop k w))
letters_more k w some =
    let more : k + 1 ≢ 0 = omega arith in
    ap (λ b. cond b [] (drop (k + 1) w)) (ne_eqb (k + 1) 0 more)
    ∙ drop_more k w ∙ sym (ap (λ b. drop 1 (cond b [] (drop k w))) (ne_eqb k 0 some))

-- the line without its first letter
pub passed : {K : Type 0} (r : Inside K) (line : Line K) → line_of r ≡ line → r.letter ≢ 0
    → line_of (record r { letter = r.letter + 1 }) ≡ left line (drop 1 line.letters) line.words line.only_arguments
passed {K} r line e some =
    ap (λ ls. left (line_of r) ls (drop r.next (texts r.words.now)) r.is_after_end) (letters_more r.letter (text_at r.words.now (r.next - 1)) some)
    ∙ ap (λ l. left l (drop 1 l.letters) l.words l.only_arguments) e
