-- No text has the shape of two forms.
use Rattle.std.proofs.Common.{◌≡◌, ℕ, zero, suc, ◌+◌, ◌-◌, ◌<◌, ◌≤◌, ◌==◌, ◌⊎◌, inl, inr, List, [], ◌∷◌, length, take, drop, get_or, Bool, true, false, not, ◌&&◌, ◌||◌, cond, nat_lt, nat_le, Option, Some, None, IsSome, option_map, Ok, refl, sym, ap, ◌∙◌, arith, codes, pos, ◌-ℤ◌}
use Rattle.std.specs.Char.{is_ascii_digit, to_ascii_lowercase}
use Rattle.std.specs.Cmp.Lexicographic.{same_text}
use Rattle.std.specs.List.{list_all, AllPairs}
use Rattle.std.specs.Option.{option_and_then}
use Rattle.std.specs.Str.{str_to_ascii_lowercase}
use Rattle.std.proofs.lemmas.Bool.{and_parts, and_from, eqb-true, lt-ltb}
use Rattle.std.proofs.lemmas.Bool.Decides.{nat_tests}
use Rattle.std.proofs.lemmas.List.{length-take, length-drop, get_or-drop, get_or-take, take-append-drop}
use Rattle.std.proofs.lemmas.List.Elements.{All-nil, All-cons}
use Rattle.std.proofs.lemmas.List.Kept.{AllPairs-cons}
use Rattle.std.proofs.lemmas.List.Folds.{list_all-map, list_all-append}
use Rattle.gix_base.specs.declared.date.Time.{Time}
use Rattle.gix_date.specs.Ago.{Count, unit_of, counts_of, ago_in}
use Rattle.gix_date.specs.DateLaws.{Excludes, FormsAreApart}
use Rattle.gix_date.specs.DateReading.{Reading, time_at}
use Rattle.gix_date.specs.DateWords.{is_gap, begin_with, words_from, words_of}
use Rattle.gix_date.specs.Iso8601Date.{is_day_and_clock, without_space, is_zone, iso8601_date}
use Rattle.gix_date.specs.Numerals.{is_number, number_of, is_integer}
use Rattle.gix_date.specs.RawDate.{raw_date}
use Rattle.gix_date.specs.RelativeDate.{time_before_sum, relative_date}
use Rattle.gix_date.specs.Shape.{fits, has_shape, is_word}
use Rattle.gix_date.specs.ShortDate.{short_date}
use Rattle.gix_date.specs.WordDate.{word_date}

-- a shape and its text are of one length, and fit at each place
shape_len : (shape text : List ℕ) → has_shape shape text ≡ true → length text ≡ length shape
unfolding has_shape
shape_len [] [] h = refl
shape_len [] (b ∷ bs) h = cc
shape_len (m ∷ ms) [] h = cc
shape_len (m ∷ ms) (b ∷ bs) h = ap suc (shape_len ms bs (and_parts (fits m b) (has_shape ms bs) h).1)

shape_at : (shape text : List ℕ) (i : ℕ) → has_shape shape text ≡ true → i < length shape → fits (get_or shape i 0) (get_or text i 0) ≡ true
unfolding has_shape
shape_at [] text i h l = absurd (omega arith)
shape_at (m ∷ ms) [] i h l = cc
shape_at (m ∷ ms) (b ∷ bs) zero h l = (and_parts (fits m b) (has_shape ms bs) h).0
shape_at (m ∷ ms) (b ∷ bs) (suc i) h l = shape_at ms bs i (and_parts (fits m b) (has_shape ms bs) h).1 (omega arith)

all_at : (p : ℕ → Bool) (bs : List ℕ) (i : ℕ) → list_all p bs ≡ true → i < length bs → p (get_or bs i 0) ≡ true
all_at p [] i h l = absurd (omega arith)
all_at p (b ∷ bs) zero h l = (and_parts (p b) (list_all p bs) h).0
all_at p (b ∷ bs) (suc i) h l = all_at p bs i (and_parts (p b) (list_all p bs) h).1 (omega arith)

-- what a reading says of its shape
some_if : {A : Type 0} (b : Bool) (x : A) → IsSome (cond b (Some x) None) → b ≡ true
some_if true x h = refl
some_if false x h = h

short_shape : (text : List ℕ) → IsSome (short_date text) → has_shape (codes "0000-00-00") text ≡ true
unfolding short_date
short_shape text h = some_if _ _ h

raw_shape : (text : List ℕ) → IsSome (raw_date text) → (is_integer (take (length text - 6) text) ≡ true) × (has_shape (codes " +0000") (drop (length text - 6) text) ≡ true)
unfolding raw_date
raw_shape text h = and_parts _ _ (some_if _ _ h)

iso8601_shape : (text : List ℕ) (now : Time) → IsSome (iso8601_date text now) → is_day_and_clock (take 19 text) ≡ true
unfolding iso8601_date
iso8601_shape text now h = (and_parts _ _ (some_if _ _ h)).0

pub raw-short : (text : List ℕ) → Excludes (raw_date text) (short_date text)
raw-short text r d =
    let day = short_shape text d in
    let raw = (raw_shape text r).1 in
    let ten = shape_len (codes "0000-00-00") text day in
    let dash = shape_at (codes "0000-00-00") text 4 day (omega arith) in
    let space = shape_at (codes " +0000") (drop (length text - 6) text) 0 raw (omega arith) in
    let four : length text - 6 ≡ 4 = omega (arith, ten) in
    let there = rw (four, get_or-drop 4 text 0 0) at space in
    let a : get_or text 4 0 ≡ 45 = eqb-true _ _ dash in
    let b : get_or text 4 0 ≡ 32 = eqb-true _ _ there in
    omega (arith, a, b)

clock_len : (text : List ℕ) → is_day_and_clock text ≡ true → length text ≡ 19
clock_len text h =
    let step : (v : Bool) → has_shape (codes "0000-00-00T00:00:00") text ≡ v → length text ≡ 19
    = λ v. elim v as (λ v. has_shape (codes "0000-00-00T00:00:00") text ≡ v → length text ≡ 19) [
      | true ↦ λ e. shape_len (codes "0000-00-00T00:00:00") text e
      | false ↦ λ e. shape_len (codes "0000-00-00 00:00:00") text (rw e at h)
    ] in
    step (has_shape (codes "0000-00-00T00:00:00") text) refl

pub short-iso8601 : (text : List ℕ) (now : Time) → Excludes (short_date text) (iso8601_date text now)
short-iso8601 text now d c =
    let ten = shape_len (codes "0000-00-00") text (short_shape text d) in
    let long = clock_len (take 19 text) (iso8601_shape text now c) in
    omega (arith, ten, long, length-take 19 text)

clock_dash : (text : List ℕ) → is_day_and_clock text ≡ true → get_or text 4 0 ≡ 45
clock_dash text h =
    let step : (v : Bool) → has_shape (codes "0000-00-00T00:00:00") text ≡ v → get_or text 4 0 ≡ 45
    = λ v. elim v as (λ v. has_shape (codes "0000-00-00T00:00:00") text ≡ v → get_or text 4 0 ≡ 45) [
      | true ↦ λ e. eqb-true _ _ (shape_at (codes "0000-00-00T00:00:00") text 4 e (omega arith))
      | false ↦ λ e. eqb-true _ _ (shape_at (codes "0000-00-00 00:00:00") text 4 (rw e at h) (omega arith))
    ] in
    step (has_shape (codes "0000-00-00T00:00:00") text) refl

-- past its first byte an integer has digits alone
integer_at : (front : List ℕ) (i : ℕ) → is_integer front ≡ true → suc i < length front → is_ascii_digit (get_or front (suc i) 0) ≡ true
unfolding is_number
integer_at front i h l =
    let step : (v : Bool) → (get_or front 0 0 == 45) ≡ v → is_ascii_digit (get_or front (suc i) 0) ≡ true
    = λ v. elim v as (λ v. (get_or front 0 0 == 45) ≡ v → is_ascii_digit (get_or front (suc i) 0) ≡ true) [
      | true ↦ λ e.
          let one : 1 + i ≡ suc i = omega arith in
          let room : i < length (drop 1 front) = omega (arith, length-drop 1 front) in
          let at = all_at is_ascii_digit (drop 1 front) i (and_parts _ _ (rw e at h)).1 room in
          rw (get_or-drop 1 front i 0, one) at at
      | false ↦ λ e. all_at is_ascii_digit front (suc i) (and_parts _ _ (rw e at h)).1 l
    ] in
    step (get_or front 0 0 == 45) refl

dash_is_no_digit : (b : ℕ) → b ≡ 45 → is_ascii_digit b ≡ true → ⊥
dash_is_no_digit b e h = let no = rw e at h in cc

pub raw-iso8601 : (text : List ℕ) (now : Time) → Excludes (raw_date text) (iso8601_date text now)
raw-iso8601 text now r c =
    let shape = iso8601_shape text now c in
    let long = clock_len (take 19 text) shape in
    let all : 19 ≤ length text = omega (arith, long, length-take 19 text) in
    let dash = clock_dash (take 19 text) shape in
    let front = take (length text - 6) text in
    let digit = integer_at front 3 (raw_shape text r).0 (omega (arith, all, length-take (length text - 6) text)) in
    dash_is_no_digit (get_or text 4 0) (sym (get_or-take 19 text 4 0 (omega arith)) ∙ dash) (rw (get_or-take (length text - 6) text 4 0 (omega (arith, all))) at digit)

-- a word's bytes in lower case are that word's
lower_word : (word text : List ℕ) → is_word word text ≡ true → str_to_ascii_lowercase text ≡ str_to_ascii_lowercase word
lower_word word text h = same_text _ _ (sym h)

-- what holds of each byte of a word in lower case holds of a text that is that word
word_all : (p : ℕ → Bool) (word text : List ℕ) → is_word word text ≡ true → list_all p (str_to_ascii_lowercase word) ≡ true → list_all (λ b. p (to_ascii_lowercase b)) text ≡ true
word_all p word text h all = sym (list_all-map p to_ascii_lowercase text) ∙ ap (list_all p) (lower_word word text h) ∙ all

word_kind : (p : ℕ → Bool) (text : List ℕ) (now : Time) → IsSome (word_date text now) → list_all p (codes "now") ≡ true → list_all p (codes "yesterday") ≡ true → list_all (λ b. p (to_ascii_lowercase b)) text ≡ true
unfolding word_date
word_kind p text now h a b =
    let second : (v : Bool) → is_word (codes "yesterday") text ≡ v → IsSome (cond v (Some (time_at (now.seconds -ℤ pos 86400) now.offset)) None) → list_all (λ b. p (to_ascii_lowercase b)) text ≡ true
    = λ v. elim v as (λ v. is_word (codes "yesterday") text ≡ v → IsSome (cond v (Some (time_at (now.seconds -ℤ pos 86400) now.offset)) None) → list_all (λ b. p (to_ascii_lowercase b)) text ≡ true) [
      | true ↦ λ e _. word_all p (codes "yesterday") text e b
      | false ↦ λ e no. cc
    ] in
    let first : (v : Bool) → is_word (codes "now") text ≡ v → IsSome (cond v (Some (Ok now)) (cond (is_word (codes "yesterday") text) (Some (time_at (now.seconds -ℤ pos 86400) now.offset)) None)) → list_all (λ b. p (to_ascii_lowercase b)) text ≡ true
    = λ v. elim v as (λ v. is_word (codes "now") text ≡ v → IsSome (cond v (Some (Ok now)) (cond (is_word (codes "yesterday") text) (Some (time_at (now.seconds -ℤ pos 86400) now.offset)) None)) → list_all (λ b. p (to_ascii_lowercase b)) text ≡ true) [
      | true ↦ λ e _. word_all p (codes "now") text e a
      | false ↦ λ e some. second (is_word (codes "yesterday") text) refl some
    ] in
    first (is_word (codes "now") text) refl h

-- neither word has a space or a dash
is_tight : ℕ → Bool
is_tight b = not ((b == 32) || (b == 45))

word_tight : (text : List ℕ) (now : Time) (i : ℕ) → IsSome (word_date text now) → i < length text → is_tight (to_ascii_lowercase (get_or text i 0)) ≡ true
unfolding is_tight
word_tight text now i w l = all_at (λ b. is_tight (to_ascii_lowercase b)) text i (word_kind is_tight text now w refl refl) l

space_or_dash : (b : ℕ) → is_tight (to_ascii_lowercase b) ≡ true → (b ≡ 32) ⊎ (b ≡ 45) → ⊥
unfolding is_tight
space_or_dash b h (inl e) = let no = rw e at h in cc
space_or_dash b h (inr e) = let no = rw e at h in cc

pub raw-word : (text : List ℕ) (now : Time) → Excludes (raw_date text) (word_date text now)
raw-word text now r w =
    let raw = (raw_shape text r).1 in
    let six = shape_len (codes " +0000") (drop (length text - 6) text) raw in
    let long : 6 ≤ length text = omega (arith, six, length-drop (length text - 6) text) in
    let at : fits 32 (get_or (drop (length text - 6) text) 0 0) ≡ true = shape_at (codes " +0000") (drop (length text - 6) text) 0 raw (omega arith) in
    let none : length text - 6 + 0 ≡ length text - 6 = omega arith in
    let space : get_or text (length text - 6) 0 ≡ 32 = eqb-true _ _ (rw (get_or-drop (length text - 6) text 0 0, none) at at) in
    space_or_dash _ (word_tight text now (length text - 6) w (omega arith)) (inl space)

pub short-word : (text : List ℕ) (now : Time) → Excludes (short_date text) (word_date text now)
short-word text now d w =
    let day = short_shape text d in
    let ten = shape_len (codes "0000-00-00") text day in
    space_or_dash _ (word_tight text now 4 w (omega (arith, ten))) (inr (eqb-true _ _ (shape_at (codes "0000-00-00") text 4 day (omega arith))))

pub iso8601-word : (text : List ℕ) (now : Time) → Excludes (iso8601_date text now) (word_date text now)
iso8601-word text now c w =
    let shape = iso8601_shape text now c in
    let long = clock_len (take 19 text) shape in
    let all : 19 ≤ length text = omega (arith, long, length-take 19 text) in
    let dash = sym (get_or-take 19 text 4 0 (omega arith)) ∙ clock_dash (take 19 text) shape in
    space_or_dash _ (word_tight text now 4 w (omega (arith, all))) (inr dash)

-- a byte that is no letter `g`, which the word `ago` has and no text of another shape
is_plain : ℕ → Bool
is_plain b = not (b == 103)

plain : ℕ → Bool
plain b = is_plain (to_ascii_lowercase b)

-- the words of a text have its bytes
begin_with-all : (p : ℕ → Bool) (b : ℕ) (words : List (List ℕ)) → p b ≡ true → list_all (list_all p) words ≡ true → list_all (list_all p) (begin_with b words) ≡ true
begin_with-all p b [] h k = rw h refl
begin_with-all p b (w ∷ ws) h k =
    let parts = and_parts (list_all p w) (list_all (list_all p) ws) k in
    and_from (p b && list_all p w) (list_all (list_all p) ws) (and_from (p b) (list_all p w) h parts.0) parts.1

words_from-all : (p : ℕ → Bool) (parted : Bool) (text : List ℕ) → list_all p text ≡ true → list_all (list_all p) (words_from parted text) ≡ true
unfolding words_from
words_from-all p true [] h = refl
words_from-all p false [] h = refl
words_from-all p true (b ∷ bs) h =
    let parts = and_parts (p b) (list_all p bs) h in
    let step : (v : Bool) → list_all (list_all p) (cond v (words_from true bs) (begin_with b (words_from false bs))) ≡ true
    = λ v. elim v as (λ v. list_all (list_all p) (cond v (words_from true bs) (begin_with b (words_from false bs))) ≡ true) [
      | true ↦ words_from-all p true bs parts.1
      | false ↦ begin_with-all p b (words_from false bs) parts.0 (words_from-all p false bs parts.1)
    ] in
    step (is_gap b)
words_from-all p false (b ∷ bs) h =
    let parts = and_parts (p b) (list_all p bs) h in
    let step : (v : Bool) → list_all (list_all p) (cond v ([] ∷ words_from true bs) (begin_with b (words_from false bs))) ≡ true
    = λ v. elim v as (λ v. list_all (list_all p) (cond v ([] ∷ words_from true bs) (begin_with b (words_from false bs))) ≡ true) [
      | true ↦ words_from-all p true bs parts.1
      | false ↦ begin_with-all p b (words_from false bs) parts.0 (words_from-all p false bs parts.1)
    ] in
    step (is_gap b)

-- words without a `g` are no counts, since the last of those is `ago`
ago_plain : (word : List ℕ) → is_word (codes "ago") word ≡ true → list_all plain word ≡ true → ⊥
unfolding plain is_plain
ago_plain word h k =
    let no : list_all is_plain (codes "ago") ≡ true = ap (list_all is_plain) (sym (lower_word (codes "ago") word h)) ∙ list_all-map is_plain to_ascii_lowercase word ∙ k in
    cc

some_map : {A B : Type 0} (f : A → B) (o : Option A) → IsSome (option_map f o) → IsSome o
some_map f None h = h
some_map f (Some x) h = refl

some_then : {A B C : Type 0} (f : A → B → C) (v : Bool) (u : Option A) (o : Option B) → IsSome (cond v (option_and_then (λ x. option_map (f x) o) u) None) → IsSome o
some_then f true (Some x) o h = some_map (f x) o h
some_then f true None o h = cc
some_then f false u o h = cc

counts_of-plain : (words : List (List ℕ)) → list_all (list_all plain) words ≡ true → IsSome (counts_of words) → ⊥
unfolding counts_of
counts_of-plain [] h s = cc
counts_of-plain (word ∷ []) h s = ago_plain word (some_if _ _ s) (and_parts (list_all plain word) true h).0
counts_of-plain (number ∷ unit ∷ words) h s =
    let rest = (and_parts (list_all plain unit) (list_all (list_all plain) words) (and_parts (list_all plain number) (list_all (list_all plain) (unit ∷ words)) h).1).1 in
    counts_of-plain words rest (some_then (λ each counts. record { number = number_of number; each = each } ∷ counts) (is_number number) (unit_of unit) (counts_of words) s)

some_counts : (now : Time) (counts : Option (List Count)) → IsSome (option_map (λ sum. time_before_sum now sum) (option_and_then ago_in counts)) → IsSome counts
some_counts now None h = h
some_counts now (Some counts) h = refl

relative_plain : (text : List ℕ) (now : Time) → list_all plain text ≡ true → IsSome (relative_date text now) → ⊥
unfolding relative_date
relative_plain text now h s = counts_of-plain (words_of text) (words_from-all plain false text h) (some_counts now (counts_of (words_of text)) s)

-- texts of the other shapes have no `g`
digit_plain : (b : ℕ) → is_ascii_digit b ≡ true → plain b ≡ true
unfolding plain is_plain
digit_plain b h =
    let parts = and_parts (nat_le 48 b) (nat_le b 57) h in
    let most : b ≤ 57 = grind (arith, nat_tests) in
    let low : nat_lt b 65 ≡ true = lt-ltb b 65 (omega arith) in
    rw low (grind (arith, nat_tests))

byte_plain : (m b : ℕ) → plain m ≡ true → b == m ≡ true → plain b ≡ true
byte_plain m b h e = rw (eqb-true b m e) h

fits_plain : (m b : ℕ) → plain m ≡ true → fits m b ≡ true → plain b ≡ true
unfolding plain is_plain
fits_plain m b h f =
    let sign : (v : Bool) → (b == 43) ≡ v → (v || (b == 45)) ≡ true → plain b ≡ true
    = λ v. elim v as (λ v. (b == 43) ≡ v → (v || (b == 45)) ≡ true → plain b ≡ true) [
      | true ↦ λ e _. byte_plain 43 b refl e
      | false ↦ λ _ e. byte_plain 45 b refl e
    ] in
    let other : (v : Bool) → cond v ((b == 43) || (b == 45)) (b == m) ≡ true → plain b ≡ true
    = λ v. elim v as (λ v. cond v ((b == 43) || (b == 45)) (b == m) ≡ true → plain b ≡ true) [
      | true ↦ λ e. sign (b == 43) refl e
      | false ↦ λ e. byte_plain m b h e
    ] in
    let digit : (v : Bool) → cond v (is_ascii_digit b) (cond (m == 43) ((b == 43) || (b == 45)) (b == m)) ≡ true → plain b ≡ true
    = λ v. elim v as (λ v. cond v (is_ascii_digit b) (cond (m == 43) ((b == 43) || (b == 45)) (b == m)) ≡ true → plain b ≡ true) [
      | true ↦ λ e. digit_plain b e
      | false ↦ λ e. other (m == 43) e
    ] in
    digit (m == 48) f

shape_plain : (shape text : List ℕ) → list_all plain shape ≡ true → has_shape shape text ≡ true → list_all plain text ≡ true
unfolding has_shape
shape_plain [] [] h k = refl
shape_plain [] (b ∷ bs) h k = cc
shape_plain (m ∷ ms) [] h k = cc
shape_plain (m ∷ ms) (b ∷ bs) h k =
    let mark = and_parts (plain m) (list_all plain ms) h in
    let byte = and_parts (fits m b) (has_shape ms bs) k in
    and_from (plain b) (list_all plain bs) (fits_plain m b mark.0 byte.0) (shape_plain ms bs mark.1 byte.1)

digits_plain : (bs : List ℕ) → list_all is_ascii_digit bs ≡ true → list_all plain bs ≡ true
digits_plain [] h = refl
digits_plain (b ∷ bs) h =
    let parts = and_parts (is_ascii_digit b) (list_all is_ascii_digit bs) h in
    and_from (plain b) (list_all plain bs) (digit_plain b parts.0) (digits_plain bs parts.1)

-- a text with one byte taken off where it is that byte
front_plain : (m : ℕ) (b : ℕ) (bs : List ℕ) (v : Bool) → plain m ≡ true → (b == m) ≡ v → list_all plain (cond v bs (b ∷ bs)) ≡ true → list_all plain (b ∷ bs) ≡ true
front_plain m b bs true h e k = and_from (plain b) (list_all plain bs) (byte_plain m b h e) k
front_plain m b bs false h e k = k

integer_plain : (text : List ℕ) → is_integer text ≡ true → list_all plain text ≡ true
unfolding is_number plain is_plain
integer_plain [] h = refl
integer_plain (b ∷ bs) h =
    let digits = cond (b == 45) bs (b ∷ bs) in
    front_plain 45 b bs (b == 45) refl refl (digits_plain digits (and_parts (nat_lt 0 (length digits)) (list_all is_ascii_digit digits) h).1)

space_plain : (text : List ℕ) → list_all plain (without_space text) ≡ true → list_all plain text ≡ true
unfolding plain is_plain
space_plain [] h = refl
space_plain (b ∷ bs) h = front_plain 32 b bs (b == 32) refl refl h

both_plain : (n : ℕ) (text : List ℕ) → list_all plain (take n text) ≡ true → list_all plain (drop n text) ≡ true → list_all plain text ≡ true
both_plain n text h k =
    ap (list_all plain) (sym (take-append-drop n text)) ∙ list_all-append plain (take n text) (drop n text) ∙ and_from _ _ h k

pub raw-relative : (text : List ℕ) (now : Time) → Excludes (raw_date text) (relative_date text now)
unfolding plain is_plain
raw-relative text now r a =
    let parts = raw_shape text r in
    relative_plain text now (both_plain (length text - 6) text (integer_plain (take (length text - 6) text) parts.0) (shape_plain (codes " +0000") (drop (length text - 6) text) refl parts.1)) a

pub short-relative : (text : List ℕ) (now : Time) → Excludes (short_date text) (relative_date text now)
unfolding plain is_plain
short-relative text now d a = relative_plain text now (shape_plain (codes "0000-00-00") text refl (short_shape text d)) a

or_cases : {P : Type 0} (a b : Bool) → (a || b) ≡ true → (a ≡ true → P) → (b ≡ true → P) → P
or_cases true b h f g = f refl
or_cases false b h f g = g h

zone_plain : (text : List ℕ) → is_zone text ≡ true → list_all plain text ≡ true
unfolding is_zone plain is_plain
zone_plain text h =
    or_cases _ _ h
    (λ h. or_cases _ _ h
    (λ h. or_cases _ _ h (λ e. shape_plain [] text refl e) (λ e. shape_plain (codes "Z") text refl e))
    (λ e. space_plain text (shape_plain (codes "+0000") (without_space text) refl e)))
    (λ e. space_plain text (shape_plain (codes "+00:00") (without_space text) refl e))

iso8601_zone : (text : List ℕ) (now : Time) → IsSome (iso8601_date text now) → is_zone (drop 19 text) ≡ true
unfolding iso8601_date
iso8601_zone text now h = (and_parts _ _ (some_if _ _ h)).1

pub iso8601-relative : (text : List ℕ) (now : Time) → Excludes (iso8601_date text now) (relative_date text now)
unfolding plain is_plain
iso8601-relative text now c a =
    let front = or_cases _ _ (iso8601_shape text now c) (λ e. shape_plain (codes "0000-00-00T00:00:00") (take 19 text) refl e) (λ e. shape_plain (codes "0000-00-00 00:00:00") (take 19 text) refl e) in
    relative_plain text now (both_plain 19 text front (zone_plain (drop 19 text) (iso8601_zone text now c))) a

pub word-relative : (text : List ℕ) (now : Time) → Excludes (word_date text now) (relative_date text now)
unfolding plain is_plain
word-relative text now w a = relative_plain text now (word_kind is_plain text now w refl refl) a

no_pairs : AllPairs Excludes []
no_pairs i j d below within = absurd (omega arith)

pub forms_are_apart : FormsAreApart
forms_are_apart text now =
    let from_relative : List Reading = relative_date text now ∷ [] in
    let from_word : List Reading = word_date text now ∷ from_relative in
    let from_iso8601 : List Reading = iso8601_date text now ∷ from_word in
    let from_short : List Reading = short_date text ∷ from_iso8601 in
    let raw_apart = All-cons (Excludes (raw_date text)) (short_date text) from_iso8601 (raw-short text) (
    All-cons (Excludes (raw_date text)) (iso8601_date text now) from_word (raw-iso8601 text now) (
    All-cons (Excludes (raw_date text)) (word_date text now) from_relative (raw-word text now) (
    All-cons (Excludes (raw_date text)) (relative_date text now) [] (raw-relative text now) (
    All-nil (Excludes (raw_date text)))))) in
    let short_apart = All-cons (Excludes (short_date text)) (iso8601_date text now) from_word (short-iso8601 text now) (
    All-cons (Excludes (short_date text)) (word_date text now) from_relative (short-word text now) (
    All-cons (Excludes (short_date text)) (relative_date text now) [] (short-relative text now) (
    All-nil (Excludes (short_date text))))) in
    let iso8601_apart = All-cons (Excludes (iso8601_date text now)) (word_date text now) from_relative (iso8601-word text now) (
    All-cons (Excludes (iso8601_date text now)) (relative_date text now) [] (iso8601-relative text now) (
    All-nil (Excludes (iso8601_date text now)))) in
    let word_apart = All-cons (Excludes (word_date text now)) (relative_date text now) [] (word-relative text now) (
    All-nil (Excludes (word_date text now))) in
    let relative_apart = All-nil (Excludes (relative_date text now)) in
    AllPairs-cons Excludes (raw_date text) from_short raw_apart (
    AllPairs-cons Excludes (short_date text) from_iso8601 short_apart (
    AllPairs-cons Excludes (iso8601_date text now) from_word iso8601_apart (
    AllPairs-cons Excludes (word_date text now) from_relative word_apart (
    AllPairs-cons Excludes (relative_date text now) [] relative_apart (no_pairs)))))
