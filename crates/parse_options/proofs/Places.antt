-- What is found at a place of a table, and the only one of some names.
use Rattle.std.proofs.Common.{◌≡◌, ◌↔◌, ◌+◌, ◌<◌, ◌≤◌, ◌⊎◌, ℕ, List, Bool, true, false, IsTrue, Option, Some, None, MatchOption, length, refl, sym, ◌∙◌, inl, inr, subst, arith, below_more}
use Rattle.std.proofs.Common.{get_or}
use Rattle.std.specs.Prelude.{slice_get}
use Rattle.std.proofs.lemmas.Option.{slice_get_read, slice_get_within, get_or_from_slice_get}
use Rattle.parse_options.specs.declared.choice.Choice.{Choice}
use Rattle.parse_options.specs.declared.named.Found.{Found}
use Rattle.parse_options.specs.declared.named.Found.TheVariants.{Nothing, One, Many}
use Rattle.parse_options.specs.declared.named.Meant.{Meant}
use Rattle.parse_options.specs.Found.{also, one_of}
use Rattle.parse_options.specs.Names.{At, Begins, HasNone, IsOnly, Means}

pub clash : (b : Bool) → b ≡ true → b ≡ false → ⊥
clash b t f = cc

pub at_found : {X : Type 0} (P : X → Type 0) (xs : List X) (k : ℕ) (x : X) → k < length xs → x ≡ get_or xs k x → P x → At xs k P
at_found P xs k x within is p = (x, slice_get_read xs (length xs) k x refl within is, p)

pub at_is : {X : Type 0} (P : X → Type 0) (xs : List X) (k : ℕ) (x : X) → x ≡ get_or xs k x → At xs k P → P x
at_is P xs k x is h = subst P (sym (is ∙ get_or_from_slice_get xs k h.0 x h.1)) h.2

pub at_within : {X : Type 0} (P : X → Type 0) (xs : List X) (k : ℕ) → At xs k P → k < length xs
at_within P xs k h = slice_get_within xs k h.0 h.1

pub here_at : {X : Type 0} (P : X → Type 0) (xs : List X) (k : ℕ) (x : X) (b : Bool) → k < length xs → x ≡ get_or xs k x → IsTrue b ↔ P x → IsTrue b ↔ At xs k P
here_at P xs k x b within is h = ((λ t. at_found P xs k x within is (h.0 t)), (λ p. h.1 (at_is P xs k x is p)))

pub both_forms : (P : Bool → Type 0) → (P false → ⊥) → (P true → ⊥) → (form : Bool) → P form → ⊥
both_forms P nay yea false p = nay p
both_forms P nay yea true p = yea p

-- what was found among these places and forms
abbrev pub Tells : (S : ℕ → Bool → Type 0) → Found → Type 0
Tells S Nothing = (k : ℕ) (form : Bool) → S k form → ⊥
Tells S (One m) = S m.place m.is_no × ((k : ℕ) (form : Bool) → S k form → (k ≡ m.place) × (form ≡ m.is_no))
Tells S Many = (k : ℕ) × (j : ℕ) × (f : Bool) × (h : Bool) × S k f × S j h × ((k ≡ j) × (f ≡ h) → ⊥)

-- one place and form more, if b
pub record Adds (S T : ℕ → Bool → Type 0) (b : Bool) (k : ℕ) (f : Bool) : Type 0 where
  pub keeps : (j : ℕ) (h : Bool) → S j h → T j h
  pub more : b ≡ true → T k f
  pub only : (j : ℕ) (h : Bool) → T j h → S j h ⊎ ((b ≡ true) × (j ≡ k) × (h ≡ f))
  pub fresh : S k f → ⊥

kept : {S T : ℕ → Bool → Type 0} {k : ℕ} {f : Bool} → Adds S T false k f → (j : ℕ) (h : Bool) → T j h → S j h
kept a j h t = elim (a.only j h t) [ inl s ↦ s | inr p ↦ absurd (clash true refl (sym p.0)) ]

pub also_tells : {S T : ℕ → Bool → Type 0} (found : Found) (b : Bool) (k : ℕ) (f : Bool) → Adds S T b k f → Tells S found → Tells T (also found b k f)
also_tells Nothing false k f a t = λ j h s. t j h (kept a j h s)
also_tells (One m) false k f a t = (a.keeps m.place m.is_no t.0, λ j h s. t.1 j h (kept a j h s))
also_tells Many false k f a t = (t.0, t.1, t.2, t.3, a.keeps t.0 t.2 t.4, a.keeps t.1 t.3 t.5, t.6)
also_tells Nothing true k f a t = (a.more refl, λ j h s. elim (a.only j h s) [ inl u ↦ absurd (t j h u) | inr p ↦ (p.1, p.2) ])
also_tells {S} (One m) true k f a t = (
  m.place,
  k,
  m.is_no,
  f,
  a.keeps m.place m.is_no t.0,
  a.more refl,
  λ e. a.fresh (subst (λ h. S k h) e.1 (subst (λ j. S j m.is_no) e.0 t.0)),
)
also_tells Many true k f a t = (t.0, t.1, t.2, t.3, a.keeps t.0 t.2 t.4, a.keeps t.1 t.3 t.5, t.6)

-- the places below n
abbrev pub Below : (P : ℕ → Bool → Type 0) → ℕ → ℕ → Bool → Type 0
Below P n j h = (j < n) × P j h

-- the places below n, and the first form of the place n
abbrev Half : (P : ℕ → Bool → Type 0) → ℕ → ℕ → Bool → Type 0
Half P n j h = ((j < n) ⊎ ((j ≡ n) × (h ≡ false))) × P j h

first_form : (P : ℕ → Bool → Type 0) (n : ℕ) (b : Bool) → IsTrue b ↔ P n false → Adds (Below P n) (Half P n) b n false
first_form P n b is = record {
  keeps = λ j h s. (inl s.0, s.1);
  more = λ t. (inr (refl, refl), is.0 t);
  only = λ j h t. elim t.0 [
    | inl low ↦ inl (low, t.1)
    | inr e ↦ inr (is.1 (subst (λ f. P n f) e.1 (subst (λ k. P k h) e.0 t.1)), e.0, e.1)
  ];
  fresh = λ s. let l : n < n = s.0 in absurd (omega arith);
}

low_or_same : (j n : ℕ) → j < n + 1 → (j < n) ⊎ (j ≡ n)
low_or_same j n low = below_more (λ k. (k < n) ⊎ (k ≡ n)) n (λ k less. inl less) (inr refl) j low

second_only : (P : ℕ → Bool → Type 0) (n : ℕ) (b : Bool) → IsTrue b ↔ P n true → (j : ℕ) (h : Bool) → (j < n) ⊎ (j ≡ n) → P j h
    → Half P n j h ⊎ ((b ≡ true) × (j ≡ n) × (h ≡ true))
second_only P n b is j h (inl low) p = inl (inl low, p)
second_only P n b is j false (inr e) p = inl (inr (e, refl), p)
second_only P n b is j true (inr e) p = inr (is.1 (subst (λ k. P k true) e p), e, refl)

second_form : (P : ℕ → Bool → Type 0) (n : ℕ) (b : Bool) → IsTrue b ↔ P n true → Adds (Half P n) (Below P (n + 1)) b n true
second_form P n b is = record {
  keeps = λ j h s. (elim s.0 [ inl low ↦ omega arith | inr e ↦ (let same : j ≡ n = e.0 in omega arith) ], s.1);
  more = λ t. (omega arith, is.0 t);
  only = λ j h t. second_only P n b is j h (low_or_same j n t.0) t.1;
  fresh = λ s. elim s.0 [ inl low ↦ absurd (omega arith) | inr e ↦ clash true refl e.1 ];
}

-- one place more
pub next_tells : (P : ℕ → Bool → Type 0) (n : ℕ) (found : Found) (b d : Bool) → IsTrue b ↔ P n false → IsTrue d ↔ P n true
    → Tells (Below P n) found → Tells (Below P (n + 1)) (also (also found b n false) d n true)
next_tells P n found b d is also_is t =
    also_tells (also found b n false) d n true (second_form P n d also_is) (also_tells found b n false (first_form P n b is) t)

below : {K : Type 0} (choices : List (Choice K)) (name : List ℕ) (n : ℕ) → length choices ≤ n → (k : ℕ) (f : Bool) → Begins choices name k f → k < n
below choices name n end k f b =
    let within : k < length choices = slice_get_within choices k b.0 b.1 in
    omega arith

-- the only one of all
pub one_is : {K : Type 0} (choices : List (Choice K)) (name : List ℕ) (n : ℕ) (found : Found) → length choices ≤ n
    → Tells (Below (λ k f. Begins choices name k f) n) found
    → MatchOption (one_of found) ((place : ℕ) (is_no : Bool) → IsOnly choices name place is_no → ⊥) (λ m. IsOnly choices name m.place m.is_no)
one_is choices name n Nothing end t = λ place is_no only. t place is_no (below choices name n end place is_no only.begins, only.begins)
one_is choices name n (One m) end t = record {
  begins = t.0.1;
  only = λ other form b. t.1 other form (below choices name n end other form b, b);
}
one_is choices name n Many end t = λ place is_no only.
    let a = only.only t.0 t.2 t.4.1 in
    let b = only.only t.1 t.3 t.5.1 in
    t.6 (a.0 ∙ sym b.0, a.1 ∙ sym b.1)

pub named_begun : {K : Type 0} (choices : List (Choice K)) (name : List ℕ) (r : Option Meant) → HasNone choices name
    → MatchOption r ((place : ℕ) (is_no : Bool) → IsOnly choices name place is_no → ⊥) (λ m. IsOnly choices name m.place m.is_no)
    → MatchOption r ((place : ℕ) (is_no : Bool) → Means choices name place is_no → ⊥) (λ m. Means choices name m.place m.is_no)
named_begun choices name None none h = λ place is_no means. elim means [ inl has ↦ none place is_no has | inr p ↦ h place is_no p.1 ]
named_begun choices name (Some m) none h = inr (none, h)

pub means_found : {K : Type 0} (choices : List (Choice K)) (name : List ℕ) (place : ℕ) (is_no : Bool) → Means choices name place is_no
    → (choice : Choice K) × (slice_get choices place ≡ Some choice)
means_found choices name place is_no (inl h) = (h.0, h.1)
means_found choices name place is_no (inr p) = (p.1.begins.0, p.1.begins.1)

pub not_none : {X : Type 0} (o : Option X) (x : X) → o ≡ Some x → o ≡ None → ⊥
not_none o x some none = cc
