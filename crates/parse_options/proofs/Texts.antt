-- What the front of a text says of the text.
use Rattle.std.proofs.Common.{◌≡◌, ◌≢◌, ◌↔◌, ◌++◌, ◌∷◌, [], ◌+◌, ◌⊎◌, ℕ, List, Bool, true, false, IsTrue, Option, MatchOption, take, drop, length, refl, sym, ap, ◌∙◌, inl, inr, append_assoc, arith, suc}
use Rattle.std.specs.Prelude.{nat_eq, codes, Contains, ◌==◌}
use Rattle.std.specs.Borrow.{Bor}
use Rattle.std.specs.Cmp.Lexicographic.{pointwise}
use Rattle.std.proofs.lemmas.List.{append_cancel_left}
use Rattle.std.proofs.lemmas.Slice.Eq.{slice_eq-Decides, strip_prefix_is}
use Rattle.std.proofs.lemmas.Bool.Decides.{Decides-eqb}

pub stripped : (s p : List ℕ) (r : Option (Bor (List ℕ)))
    → MatchOption r (pointwise nat_eq (take (length p) s) p ≡ false) (λ x. (pointwise nat_eq (take (length p) s) p ≡ true) × (x.now ≡ drop (length p) s) × (length x.now + length p ≡ length s))
    → MatchOption r ((rest : List ℕ) → s ≢ p ++ rest) (λ x. s ≡ p ++ x.now)
stripped s p r h = strip_prefix_is Decides-eqb s p r h

pub same_text : (xs ys : List ℕ) → (pointwise nat_eq xs ys ≡ true) ↔ (xs ≡ ys)
same_text xs ys = slice_eq-Decides Decides-eqb xs ys (pointwise nat_eq xs ys) refl

-- one of two fronts of a text is a front of the other
pub fronts : (a b x y : List ℕ) → a ++ x ≡ b ++ y → ((s : List ℕ) × (a ≡ b ++ s)) ⊎ ((s : List ℕ) × (b ≡ a ++ s))
fronts [] b x y e = inr (b, refl)
fronts (u ∷ a) [] x y e = inl (u ∷ a, refl)
fronts (u ∷ a) (v ∷ b) x y e =
    let heads : u ≡ v = cc in
    let tails : a ++ x ≡ b ++ y = cc in
    elim (fronts a b x y tails) [ inl p ↦ inl (p.0, cc (p.1)) | inr p ↦ inr (p.0, cc (p.1)) ]

-- a text begins with a name that does not begin with its front, if the front begins with the name
pub short_front : (front long name : List ℕ) (b : Bool) → ((rest : List ℕ) → name ≢ front ++ rest)
    → IsTrue b ↔ ((rest : List ℕ) × (front ≡ name ++ rest))
    → IsTrue b ↔ ((rest : List ℕ) × (front ++ long ≡ name ++ rest))
short_front front long name b none h = (
  (λ t. let p = h.0 t in (p.0 ++ long, ap (λ x. x ++ long) p.1 ∙ append_assoc name p.0 long)),
  (λ q. elim (fronts front name long q.0 q.1) [ inl p ↦ h.1 p | inr p ↦ absurd (none p.0 p.1) ]),
)

-- a text begins with a name that begins with its front, if what follows begins so
pub long_front : (front long name rest : List ℕ) (b : Bool) → name ≡ front ++ rest
    → IsTrue b ↔ ((more : List ℕ) × (long ≡ rest ++ more))
    → IsTrue b ↔ ((more : List ℕ) × (front ++ long ≡ name ++ more))
long_front front long name rest b e h = (
  (λ t. let p = h.0 t in (p.0, ap (λ x. front ++ x) p.1 ∙ sym (append_assoc front rest p.0) ∙ ap (λ x. x ++ p.0) (sym e))),
  (λ q. h.1 (q.0, append_cancel_left front long (rest ++ q.0) (q.1 ∙ ap (λ x. x ++ q.0) e ∙ append_assoc front rest q.0))),
)

pub negated : (front long name rest : List ℕ) (b : Bool) → name ≡ front ++ rest → b ≡ pointwise nat_eq rest long
    → IsTrue b ↔ (front ++ long ≡ name)
negated front long name rest b e is =
    let same = same_text rest long in (
      (λ t. ap (λ x. front ++ x) (sym (same.0 (sym is ∙ t))) ∙ sym e),
      (λ q. is ∙ same.1 (sym (append_cancel_left front long rest (q ∙ e)))),
    )

pub append_nil_right : (xs : List ℕ) → xs ++ [] ≡ xs
append_nil_right [] = refl
append_nil_right (x ∷ xs) = ap (λ ys. x ∷ ys) (append_nil_right xs)

-- a text with a letter in it contains the letter
pub contains_middle : (front rest : List ℕ) (b : ℕ) → Contains (front ++ (b ∷ rest)) b
contains_middle [] rest b = (0, omega arith, refl)
contains_middle (x ∷ front) rest b = let h = contains_middle front rest b in (suc h.0, omega (arith, h.1), h.2)

-- a word with letters behind its dash that is no long option
pub short_word : (word letters : List ℕ) → word ≡ codes "-" ++ letters → (length letters == 0) ≡ false
    → ((rest : List ℕ) → word ≢ codes "--" ++ rest)
    → (letter : ℕ) × (more : List ℕ) × (word ≡ codes "-" ++ (letter ∷ more)) × (letter ≢ 45)
short_word word [] e some none = absurd (cc)
short_word word (l ∷ ls) e some none = (l, ls, e, λ d. none ls (e ∙ ap (λ x. 45 ∷ x ∷ ls) d))
