-- Which lines tell of a name.
use Rattle.std.proofs.Common.{◌≡◌, ◌≢◌, ℕ, suc, List, [], ◌∷◌, Bool, true, false, cond, Option, None, Some, take, drop, refl, sym, ap, ◌∙◌, subst, ◌+◌}
use Rattle.std.specs.Option.{option_map}
use Rattle.std.specs.Prelude.{◌==◌, ◌&&◌, nat_eq, length, MatchOption, IfSome}
use Rattle.std.specs.List.{list_all}
use Rattle.std.specs.Cmp.Lexicographic.{pointwise}
use Rattle.std.proofs.lemmas.Bool.{and_left, and_right, eqb-true, false_from_ne_true}
use Rattle.std.proofs.lemmas.Bool.Decides.{Decides-eqb}
use Rattle.std.proofs.lemmas.List.{drop-drop}
use Rattle.std.proofs.lemmas.Slice.Eq.{slice_eq-Decides}
use Rattle.hex.specs.Hex.{is_hex_digit}
use Rattle.gix_base.specs.Digits.{bytes_of}
use Rattle.gix_ref_text.specs.Lines.{is_id, id_of, first_part, parts, parts_after, lines}
use Rattle.gix_ref_text.specs.Loose.{Says}
use Rattle.gix_ref_text.specs.Packed.{is_named, told_by, peeled_first, first_of, lines_say, packed_says}
use Rattle.gix_ref_text.specs.Snapshot.{first_says, IsTold}

no-either : (c : Bool) (o : Option (List ℕ)) → o ≡ None → cond c o None ≡ None
no-either true o e = e
no-either false o e = refl

first-true : (a b : Bool) → (a && b) ≡ true → a ≡ true
first-true true b h = refl
first-true false b h = h

-- A line tells of no name if its first byte is no hex digit.
marked : (b : ℕ) (rest name : List ℕ) → is_hex_digit b ≡ false → told_by (b ∷ rest) name ≡ None
marked b rest name h =
    let digits : List ℕ = b ∷ take 39 rest in
    let no : is_id digits ≡ false = and_right (length digits == 40) (list_all is_hex_digit digits) (and_left (is_hex_digit b) (list_all is_hex_digit (take 39 rest)) h) in
    no-either (is_named (drop 40 (b ∷ rest)) name) (id_of digits) (ap (λ t. cond t (Some (bytes_of digits)) None) no)

-- So does a line that begins with some bytes, the first of which is no hex digit.
pub marked-line : (n b : ℕ) (bs line name : List ℕ) → is_hex_digit b ≡ false → pointwise nat_eq (take (suc n) line) (b ∷ bs) ≡ true
    → told_by line name ≡ None
marked-line n b bs [] name h e = absurd (cc)
marked-line n b bs (c ∷ rest) name h e =
    marked c rest name (ap is_hex_digit (eqb-true c b (first-true (nat_eq c b) (pointwise nat_eq (take n rest) bs) e)) ∙ h)

unnamed : (text name : List ℕ) → drop 1 text ≢ name → is_named text name ≡ false
unnamed [] name other = refl
unnamed (b ∷ rest) name other =
    and_right (b == 32) (pointwise nat_eq rest name) (false_from_ne_true _ (λ e. other ((slice_eq-Decides Decides-eqb rest name _ refl).0 e)))

-- A line with another name does not tell of a name.
pub other-line : (line name : List ℕ) → drop 41 line ≢ name → told_by line name ≡ None
other-line line name other =
    ap (λ t. cond t (id_of (take 40 line)) None) (unnamed (drop 40 line) name (λ e. other (sym (drop-drop 1 40 line) ∙ e)))

-- If the first of some lines has another name, others say what is said.
pub other-first : (ls : List (List ℕ)) (name : List ℕ) (others : Option Says) → drop 41 (first_part ls) ≢ name → first_says ls name others ≡ others
other-first [] name others other = refl
other-first (line ∷ ls) name others other = ap (λ id. first_of id (peeled_first ls) others) (other-line line name other)

-- What the first of some lines says it says before others, too. If it says nothing, others say it.
pub first-told : (ls : List (List ℕ)) (name : List ℕ) (others : Option Says) (said : Says) → first_says ls name None ≡ Some said
    → first_says ls name others ≡ Some said
first-told [] name others said e = absurd (cc)
first-told (line ∷ ls) name others said e = from (told_by line name) e where
  from : (id : Option (List ℕ)) → first_of id (peeled_first ls) None ≡ Some said → first_of id (peeled_first ls) others ≡ Some said
  from None f = absurd (cc)
  from (Some id) f = f

pub first-untold : (ls : List (List ℕ)) (name : List ℕ) (others : Option Says) → first_says ls name None ≡ None → first_says ls name others ≡ others
first-untold [] name others e = refl
first-untold (line ∷ ls) name others e = from (told_by line name) e where
  from : (id : Option (List ℕ)) → first_of id (peeled_first ls) None ≡ None → first_of id (peeled_first ls) others ≡ others
  from None f = refl
  from (Some id) f = absurd (cc)

-- After a line that tells of no name the rest says the same.
pub told-after : {X : Type 0} (now : X → List ℕ) (bytes line : List ℕ) (o : Option X) (x : X) → parts 10 bytes ≡ line ∷ parts_after 10 (option_map now o)
    → IfSome o (λ r. now r ≡ drop (length line + 1) bytes) → o ≡ Some x → ((name : List ℕ) → told_by line name ≡ None) → IsTold bytes (now x)
told-after now bytes line o x split behind is none = record {
  end = (length line + 1, subst (λ o. IfSome o (λ r. now r ≡ drop (length line + 1) bytes)) is behind);
  same = λ name.
      ap (λ ls. lines_say ls name) (split ∙ ap (λ o. line ∷ parts_after 10 (option_map now o)) is)
      ∙ ap (λ id. first_of id (peeled_first (lines (now x))) (packed_says (now x) name)) (none name);
}

pub if_some : {X : Type 0} (N : Type 0) {P Q : X → Type 0} → (o : Option X) → ((x : X) → P x → Q x) → MatchOption o N P → IfSome o Q
if_some N None f h = tt
if_some N (Some x) f h = f x h
