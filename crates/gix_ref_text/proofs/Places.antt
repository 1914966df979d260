-- What the lines at some places say.
use Rattle.std.proofs.Common.{◌≡◌, ◌≢◌, ℕ, suc, ◌+◌, ◌-◌, ◌<◌, inl, inr, List, [], ◌∷◌, ◌++◌, Bool, true, Option, None, Some, take, drop, length, get_or, refl, sym, ap, ◌∙◌, subst, arith}
use Rattle.std.specs.List.{AllByRecursion}
use Rattle.std.specs.List.Sorted.{IsStrictlySortedBy}
use Rattle.std.specs.Cmp.Lexicographic.{slice_cmp, nat_list_cmp_total}
use Rattle.std.specs.Ordering.{nat_cmp, ordering_reverse}
use Rattle.std.specs.declared.cmp.Ordering.TheVariants.{Less, Equal, Greater}
use Rattle.std.proofs.lemmas.Bool.{cases_lt}
use Rattle.std.proofs.lemmas.Cmp.{tied_itself}
use Rattle.std.proofs.Math.Seq.{drop-cons}
use Rattle.std.proofs.lemmas.List.{drop-drop, drop_all, length-drop, take-append-drop}
use Rattle.std.proofs.lemmas.Map.Lookups.{exact_bytes}
use Rattle.gix_ref_text.specs.Lines.{first_part, lines}
use Rattle.gix_ref_text.specs.Loose.{Says}
use Rattle.gix_ref_text.specs.Packed.{packed_says}
use Rattle.gix_ref_text.specs.Snapshot.{first_says, name_at, places_say, compare_at, AreSorted, AreUpTo, IsEnd, IsTold, IsRecord, IsRead}
use Rattle.gix_ref_text.proofs.Told.{other-first, first-told, first-untold}
use Rattle.gix_ref_text.proofs.Rising.{all-from, all-last, rising-before, rising-behind, rising-front, rising-rest, rising-last}

pub says-append : (bytes ps qs name : List ℕ) (others : Option Says) → places_say bytes (ps ++ qs) name others ≡ places_say bytes ps name (places_say bytes qs name others)
says-append bytes [] qs name others = refl
says-append bytes (p ∷ ps) qs name others = ap (λ o. first_says (lines (drop p bytes)) name o) (says-append bytes ps qs name others)

-- The lines at the places from one on.
says-from : (bytes places name : List ℕ) (i : ℕ) → i < length places
    → places_say bytes (drop i places) name None ≡ first_says (lines (drop (get_or places i 0) bytes)) name (places_say bytes (drop (i + 1) places) name None)
says-from bytes places name i less =
    let next : suc i ≡ i + 1 = omega arith in
    ap (λ ps. places_say bytes ps name None) (drop-cons places i 0 less)
    ∙ ap (λ k. first_says (lines (drop (get_or places i 0) bytes)) name (places_say bytes (drop k places) name None)) next

pub found-from : (bytes places name : List ℕ) (i : ℕ) → i < length places → (said : Says)
    → first_says (lines (drop (get_or places i 0) bytes)) name None ≡ Some said → places_say bytes (drop i places) name None ≡ Some said
found-from bytes places name i less said e =
    says-from bytes places name i less
    ∙ first-told (lines (drop (get_or places i 0) bytes)) name (places_say bytes (drop (i + 1) places) name None) said e

pub missed-from : (bytes places name : List ℕ) (i : ℕ) → i < length places
    → first_says (lines (drop (get_or places i 0) bytes)) name None ≡ None
    → places_say bytes (drop i places) name None ≡ places_say bytes (drop (i + 1) places) name None
missed-from bytes places name i less e =
    says-from bytes places name i less
    ∙ first-untold (lines (drop (get_or places i 0) bytes)) name (places_say bytes (drop (i + 1) places) name None) e

-- Lines with other names leave what others say.
others-say : (bytes ps name : List ℕ) (others : Option Says) → AllByRecursion (λ p. name_at bytes p ≢ name) ps → places_say bytes ps name others ≡ others
others-say bytes [] name others h = refl
others-say bytes (p ∷ ps) name others h = other-first (lines (drop p bytes)) name (places_say bytes ps name others) h.0 ∙ others-say bytes ps name others h.1

itself : (a : List ℕ) → slice_cmp nat_cmp a a ≡ Equal
itself a = tied_itself nat_list_cmp_total a

unlike-less : (a b : List ℕ) → slice_cmp nat_cmp a b ≡ Less → a ≢ b
unlike-less a b less e = let c : Less ≡ Equal = sym less ∙ ap (λ x. slice_cmp nat_cmp x b) e ∙ itself b in cc

unlike-greater : (a b : List ℕ) → slice_cmp nat_cmp b a ≡ Less → a ≢ b
unlike-greater a b less e = unlike-less b a less (sym e)

turned : (a b : List ℕ) → slice_cmp nat_cmp a b ≡ Greater → slice_cmp nat_cmp b a ≡ Less
turned a b e = nat_list_cmp_total.antisymm b a ∙ ap ordering_reverse e

pub split-at : (n : ℕ) (left front back : List ℕ) (p : ℕ) (behind : List ℕ) → front ≡ take n left → back ≡ drop n left → back ≡ p ∷ behind
    → left ≡ front ++ p ∷ behind
split-at n left front back p behind f b is =
    sym (take-append-drop n left) ∙ ap (λ x. x ++ drop n left) (sym f) ∙ ap (λ x. front ++ x) (sym b ∙ is)

pub same-name : (a b : List ℕ) → slice_cmp nat_cmp a b ≡ Equal → a ≡ b
same-name a b e = exact_bytes a b e

-- A line at a place among sorted ones, and a name.
module _ (bytes left front : List ℕ) (p : ℕ) (behind name : List ℕ) (split : left ≡ front ++ p ∷ behind) (sorted : AreSorted bytes left) where
  whole : AreSorted bytes (front ++ p ∷ behind)
  whole = subst (AreSorted bytes) split sorted

  cut : places_say bytes left name None ≡ places_say bytes front name (places_say bytes (p ∷ behind) name None)
  cut = ap (λ ps. places_say bytes ps name None) split ∙ says-append bytes front (p ∷ behind) name None

  pub front-sorted : AreSorted bytes front
  front-sorted = rising-front (compare_at bytes) front (p ∷ behind) whole

  pub behind-sorted : AreSorted bytes behind
  behind-sorted = rising-rest (compare_at bytes) front p behind whole

  -- the names before it are not this one, if its name is not greater
  front-others : ((q : ℕ) → compare_at bytes q p ≡ Less → name_at bytes q ≢ name) → (others : Option Says) → places_say bytes front name others ≡ others
  front-others unlike others = others-say bytes front name others (all-from unlike front (rising-before (compare_at bytes) front p behind whole))

  behind-others : ((q : ℕ) → compare_at bytes p q ≡ Less → name_at bytes q ≢ name) → places_say bytes behind name None ≡ None
  behind-others unlike = others-say bytes behind name None (all-from unlike behind (rising-behind (compare_at bytes) front p behind whole))

  pub look-behind : slice_cmp nat_cmp (name_at bytes p) name ≡ Less → places_say bytes left name None ≡ places_say bytes behind name None
  look-behind less =
      cut
      ∙ front-others (λ q low. unlike-less (name_at bytes q) name (nat_list_cmp_total.trans (name_at bytes q) (name_at bytes p) name low less)) _
      ∙ other-first (lines (drop p bytes)) name (places_say bytes behind name None) (unlike-less (name_at bytes p) name less)

  pub look-here : name_at bytes p ≡ name → places_say bytes left name None ≡ first_says (lines (drop p bytes)) name None
  look-here is =
      cut
      ∙ front-others (λ q low. unlike-less (name_at bytes q) name (ap (slice_cmp nat_cmp (name_at bytes q)) (sym is) ∙ low)) _
      ∙ ap (λ o. first_says (lines (drop p bytes)) name o) (behind-others (λ q high. unlike-greater (name_at bytes q) name (ap (λ n. slice_cmp nat_cmp n (name_at bytes q)) (sym is) ∙ high)))

  pub look-before : slice_cmp nat_cmp (name_at bytes p) name ≡ Greater → places_say bytes left name None ≡ places_say bytes front name None
  look-before greater =
      let less : slice_cmp nat_cmp name (name_at bytes p) ≡ Less = turned (name_at bytes p) name greater in
      cut
      ∙ ap (λ o. places_say bytes front name o) (
      other-first (lines (drop p bytes)) name (places_say bytes behind name None) (unlike-greater (name_at bytes p) name less)
      ∙ behind-others (λ q high. unlike-greater (name_at bytes q) name (nat_list_cmp_total.trans name (name_at bytes p) (name_at bytes q) less high))
      )

-- An end of bytes is what they have from a place on.
pub end-at : (bytes rest : List ℕ) → IsEnd bytes rest → rest ≡ drop (length bytes - length rest) bytes
end-at bytes rest (n, e) = elim (cases_lt n (length bytes)) [
  | inl low ↦ e ∙ ap (λ k. drop k bytes) (omega (arith, low, ap length e, length-drop n bytes))
  | inr high ↦
      let none : rest ≡ [] = e ∙ drop_all n bytes high in
      none ∙ sym (drop_all (length bytes - length rest) bytes (omega (arith, ap length none)))
]

pub end-trans : (bytes rest after : List ℕ) → IsEnd bytes rest → IsEnd rest after → IsEnd bytes after
end-trans bytes rest after (n, e) (m, f) = (n + m, f ∙ ap (drop m) e ∙ drop-drop m n bytes)

none-sorted : (bytes : List ℕ) → AreSorted bytes []
unfolding IsStrictlySortedBy
none-sorted bytes = tt

-- A record at the end of what was read.
module _ (bytes rest name after : List ℕ) (end : IsEnd bytes rest) (found : IsRecord rest name after) where
  abbrev place : ℕ
  place = length bytes - length rest

  name-is : name_at bytes place ≡ name
  name-is = ap (λ x. drop 41 (first_part (lines x))) (sym (end-at bytes rest end)) ∙ sym found.named

  one-more : (places n : List ℕ) → packed_says bytes n ≡ places_say bytes places n (packed_says rest n)
      → packed_says bytes n ≡ places_say bytes (places ++ place ∷ []) n (packed_says after n)
  one-more places n before =
      before
      ∙ ap (λ o. places_say bytes places n o) (found.says n ∙ ap (λ x. first_says (lines x) n (packed_says after n)) (end-at bytes rest end))
      ∙ sym (says-append bytes places (place ∷ []) n (packed_says after n))

  sorted-more : (places last : List ℕ) → slice_cmp nat_cmp last name ≡ Less → AreSorted bytes places → AreUpTo bytes places last
      → AreSorted bytes (places ++ place ∷ [])
  sorted-more places last less sorted up =
      rising-last (compare_at bytes) places place sorted
      (all-from (λ p f. ap (slice_cmp nat_cmp (name_at bytes p)) name-is ∙ f name less) places up)

  up-more : (places last : List ℕ) → slice_cmp nat_cmp last name ≡ Less → AreUpTo bytes places last → AreUpTo bytes (places ++ place ∷ []) name
  up-more places last less up =
      all-last _ places place
      (all-from (λ p f x h. f x (nat_list_cmp_total.trans last name x less h)) places up)
      (λ x h. ap (λ n. slice_cmp nat_cmp n x) name-is ∙ h)

-- Nothing was read after a header.
pub read-none : (bytes rest places last : List ℕ) → IsTold bytes rest → places ≡ [] → IsRead bytes rest places true last
read-none bytes rest places last told none = record {
  end = told.end;
  says = λ name. told.same name ∙ ap (λ ps. places_say bytes ps name (packed_says rest name)) (sym none);
  sorted = λ yes. subst (AreSorted bytes) (sym none) (none-sorted bytes);
  up_to = λ yes. subst (λ ps. AreUpTo bytes ps last) (sym none) tt;
}

-- One more line was read.
pub read-more : (bytes rest places : List ℕ) (is_sorted : Bool) (last name after more : List ℕ) (p : ℕ) (still : Bool)
    → IsRead bytes rest places is_sorted last → IsRecord rest name after → more ≡ places ++ p ∷ [] → p ≡ length bytes - length rest
    → (still ≡ true → (is_sorted ≡ true) × (slice_cmp nat_cmp last name ≡ Less)) → IsRead bytes after more still name
read-more bytes rest places is_sorted last name after more p still read found pushed at rises =
    let end = read.end in
    let is : more ≡ places ++ (length bytes - length rest) ∷ [] = pushed ∙ ap (λ q. places ++ q ∷ []) at in
    record {
      end = end-trans bytes rest after end found.end;
      says = λ n. one-more bytes rest name after end found places n (read.says n) ∙ ap (λ ps. places_say bytes ps n (packed_says after n)) (sym is);
      sorted = λ yes.
          let s = rises yes in
          subst (AreSorted bytes) (sym is) (sorted-more bytes rest name after end found places last s.1 (read.sorted s.0) (read.up_to s.0));
      up_to = λ yes.
          let s = rises yes in
          subst (λ ps. AreUpTo bytes ps name) (sym is) (up-more bytes rest name after end found places last s.1 (read.up_to s.0));
    }
