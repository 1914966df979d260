-- What comparing the parts of a name says of the name.
use Rattle.std.proofs.Common.{◌≡◌, ◌≢◌, ◌↔◌, ◌++◌, ◌∷◌, [], ◌+◌, ℕ, List, Bool, true, false, IsTrue, Option, None, Some, MatchOption, take, drop, length, refl, sym, ap, ◌∙◌}
use Rattle.std.specs.Prelude.{nat_eq}
use Rattle.std.specs.Borrow.{Bor}
use Rattle.std.specs.Cmp.Lexicographic.{pointwise}
use Rattle.std.proofs.lemmas.List.{append_cancel_left}
use Rattle.std.proofs.lemmas.Slice.Eq.{slice_eq-Decides, strip_prefix_is}
use Rattle.std.proofs.lemmas.Bool.Decides.{Decides-eqb}

pub stripped : (s p : List ℕ) (r : Option (Bor (List ℕ)))
    → MatchOption r (pointwise nat_eq (take (length p) s) p ≡ false) (λ x. (pointwise nat_eq (take (length p) s) p ≡ true) × (x.now ≡ drop (length p) s) × (length x.now + length p ≡ length s))
    → MatchOption r ((rest : List ℕ) → s ≢ p ++ rest) (λ x. s ≡ p ++ x.now)
stripped s p r h = strip_prefix_is Decides-eqb s p r h

pub dotted : (name part rest : List ℕ) (r : Option (Bor (List ℕ))) → name ≡ part ++ rest
    → MatchOption r ((x : List ℕ) → rest ≢ (46 ∷ []) ++ x) (λ x. rest ≡ (46 ∷ []) ++ x.now)
    → MatchOption r ((x : List ℕ) → name ≢ part ++ (46 ∷ x)) (λ x. name ≡ part ++ (46 ∷ x.now))
dotted name part rest None e h = λ x t. h x (append_cancel_left part rest (46 ∷ x) (sym e ∙ t))
dotted name part rest (Some x) e h = e ∙ ap (λ y. part ++ y) h

same_rest : (part a b : List ℕ) → part ++ (46 ∷ a) ≡ part ++ (46 ∷ b) → a ≡ b
same_rest part a b e = let c : (46 ∷ a) ≡ (46 ∷ b) = append_cancel_left part (46 ∷ a) (46 ∷ b) e in cc

pub is_rest : (text part a b : List ℕ) → text ≡ part ++ (46 ∷ a) → (a ≡ b) ↔ (text ≡ part ++ (46 ∷ b))
is_rest text part a b e = ((λ s. e ∙ ap (λ x. part ++ (46 ∷ x)) s), (λ t. same_rest part a b (sym e ∙ t)))

pub same_text : (xs ys : List ℕ) → (pointwise nat_eq xs ys ≡ true) ↔ (xs ≡ ys)
same_text xs ys = slice_eq-Decides Decides-eqb xs ys (pointwise nat_eq xs ys) refl

pub paired : (name part rest key : List ℕ) (b : Bool) → name ≡ part ++ (46 ∷ rest) → b ≡ pointwise nat_eq rest key → IsTrue b ↔ (name ≡ part ++ (46 ∷ key))
paired name part rest key b e is =
    let same = same_text rest key in
    let whole = is_rest name part rest key e in
    ((λ t. whole.0 (same.0 (sym is ∙ t))), (λ u. is ∙ same.1 (whole.1 u)))

pub tripled : (name part rest key : List ℕ) (b : Bool) → name ≡ part ++ (46 ∷ rest) → IsTrue b ↔ (rest ≡ key) → IsTrue b ↔ (name ≡ part ++ (46 ∷ key))
tripled name part rest key b e is =
    let whole = is_rest name part rest key e in
    ((λ t. whole.0 (is.0 t)), (λ u. is.1 (whole.1 u)))
