-- What is known stays known.
use Rattle.std.proofs.Common.{◌≡◌, ℕ, List, [], ◌∷◌, ◌++◌, Bool, true, false, cond, Option, None, Some, refl, sym, ap, ◌∙◌, append_assoc, inl, inr, eq-eqb}
use Rattle.std.specs.Cmp.Derive.{both_true}
use Rattle.std.proofs.lemmas.List.{append-nil}
use Rattle.std.specs.Prelude.{◌⊎◌, nat_eq, is_some, Result, Ok, Err, IfOk}
use Rattle.std.specs.Option.{option_map, unwrap_or}
use Rattle.std.specs.Cmp.Lexicographic.{pointwise}
use Rattle.gix_ref.specs.declared.store.Reading.{Reading}
use Rattle.gix_ref_text.specs.Known.{Read, Known, first_read, content_of, reference_says, says, Grows}
use Rattle.gix_ref.specs.Known.{read_of, reads_of}
use Rattle.gix_ref_text.specs.Loose.{loose_says}
use Rattle.gix_ref_text.specs.Packed.{packed_says}

pub reads-append : {A : Type 0} → (xs ys : List (Reading A)) → reads_of (xs ++ ys) ≡ reads_of xs ++ reads_of ys
reads-append [] ys = refl
reads-append (x ∷ xs) ys = ap (λ rest. read_of x ∷ rest) (reads-append xs ys)

pub grows-refl : (k : Known) → Grows k k
grows-refl k = record { loose = ([], sym (append-nil k.loose)); packed = inr refl }

pub grows-trans : (k l m : Known) → Grows k l → Grows l m → Grows k m
grows-trans k l m a b = record {
  loose = (a.loose.0 ++ b.loose.0, b.loose.1 ∙ ap (λ x. x ++ b.loose.0) a.loose.1 ∙ append_assoc k.loose a.loose.0 b.loose.0);
  packed = elim a.packed [ inl e ↦ inl e | inr e ↦ elim b.packed [ inl f ↦ inl (sym e ∙ f) | inr f ↦ inr (f ∙ e) ] ];
}

keeps : (b : Bool) (c : Read) (x y z : Option Read) → (x ≡ z → y ≡ z) → cond b (Some c) x ≡ z → cond b (Some c) y ≡ z
keeps true c x y z f e = e
keeps false c x y z f e = f e

pub first-grows : (rs more : List Read) (name : List ℕ) (r : Read) → first_read rs name ≡ Some r → first_read (rs ++ more) name ≡ Some r
first-grows [] more name r e = absurd (cc)
first-grows (x ∷ rs) more name r e =
    keeps (pointwise nat_eq x.name name) x (first_read rs name) (first_read (rs ++ more) name) (Some r) (first-grows rs more name r) e

-- A reference that was read has the same content later.
pub content-grows : (k later : Known) (name : List ℕ) → is_some (first_read k.loose name) ≡ true → Grows k later
    → content_of (first_read later.loose name) ≡ content_of (first_read k.loose name)
content-grows k later name h g =
    ap (λ x. content_of (first_read x name)) g.loose.1 ∙ from (first_read k.loose name) refl h where
      from : (o : Option Read) → first_read k.loose name ≡ o → is_some o ≡ true → content_of (first_read (k.loose ++ g.loose.0) name) ≡ content_of (first_read k.loose name)
      from None e i = absurd (cc)
      from (Some r) e i = ap content_of (first-grows k.loose g.loose.0 name r e ∙ sym e)

-- A reference with a file says the same later.
pub loose-grows : (k later : Known) (name content : List ℕ) → is_some (first_read k.loose name) ≡ true
    → Some content ≡ content_of (first_read k.loose name) → Grows k later → says later name ≡ Some (loose_says name content)
loose-grows k later name content h e g =
    ap (λ c. reference_says c later.packed name) (content-grows k later name h g ∙ sym e)

-- A reference without a file says the same later, if `packed-refs` was read.
pub packed-grows : (k l later : Known) (name : List ℕ) → is_some (first_read k.loose name) ≡ true → None ≡ content_of (first_read k.loose name)
    → Grows k l → is_some l.packed ≡ true → Grows l later → says later name ≡ packed_says (unwrap_or l.packed []) name
packed-grows k l later name h e g p m =
    ap (λ c. reference_says c later.packed name) (content-grows k later name h (grows-trans k l later g m) ∙ sym e)
    ∙ ap (λ q. packed_says (unwrap_or q []) name) (kept m.packed) where
      kept : (l.packed ≡ None) ⊎ (later.packed ≡ l.packed) → later.packed ≡ l.packed
      kept (inl f) = absurd (cc)
      kept (inr f) = f

-- A reading is kept at the end.
pub kept : {A : Type 0} → (old new : List (Reading A)) (x : Reading A) (name : List ℕ) → new ≡ old ++ x ∷ [] → x.name.items ≡ name
    → reads_of new ≡ reads_of old ++ record { name = name; content = option_map (λ v. v.items) x.content } ∷ []
kept old new x name e n =
    let with_name : List ℕ → Read = λ m. record { name = m; content = option_map (λ v. v.items) x.content } in
    ap reads_of e ∙ reads-append old (x ∷ []) ∙ ap (λ m. reads_of old ++ with_name m ∷ []) n

same_bytes : (xs : List ℕ) → pointwise nat_eq xs xs ≡ true
same_bytes [] = refl
same_bytes (x ∷ xs) = both_true (eq-eqb x x refl) (same_bytes xs)

some_either : (b : Bool) (x : Read) (o : Option Read) → is_some o ≡ true → is_some (cond b (Some x) o) ≡ true
some_either true x o h = refl
some_either false x o h = h

-- What was read last is read.
pub found_last : (rs : List Read) (name : List ℕ) (content : Option (List ℕ)) → is_some (first_read (rs ++ record { name = name; content = content } ∷ []) name) ≡ true
found_last [] name content =
    let r : Read = record { name = name; content = content } in ap (λ b. is_some (cond b (Some r) None)) (same_bytes name)
found_last (x ∷ xs) name content = some_either _ x _ (found_last xs name content)

pub if_ok : {T E : Type 0} {P Q : T → Type 0} → (r : Result T E) → ((x : T) → P x → Q x) → IfOk r P → IfOk r Q
if_ok (Ok x) f p = f x p
if_ok (Err e) f p = p
