-- What a hex text's bytes print as: the text in lower case.
use Rattle.std.proofs.Common.{◌≡◌, ℕ, suc, zero, ◌+◌, ◌*◌, ◌/◌, ◌%◌, ◌<◌, ◌==◌, ◌&&◌, Bool, true, List, [], ◌∷◌, map, length, take, slice_index, Option, Some, None, Result, Ok, Err, refl, sym, ap, ◌∙◌, arith, inl, inr}
use Rattle.std.specs.Char.{to_ascii_lowercase}
use Rattle.std.specs.Result.{result_unwrap_or}
use Rattle.std.proofs.lemmas.Bool.{and_parts, cases_lt, eqb-true}
use Rattle.hex.specs.Hex.{hex_digit_value, digit_or_error, value_at, pair_value, ◌>>=◌, decode_pairs, lower_digits, encode_with, encode_lower, decode_sized, is_hex_digit}
use Rattle.std.proofs.lemmas.List.{map-append, length-map, drop-map, length-append, get_or_append_left}
use Rattle.std.proofs.Math.Seq.{take-append_seam}
use Rattle.std.specs.List.{AllPass}
use Rattle.hex.proofs.HexLemmas.{decode_sized-ok, decode_sized-twice, decode_of-even}
use Rattle.gix_base.specs.Hash.{padded}
use Rattle.hex.specs.declared.error.FromHexError.{FromHexError}

-- whether a digit's value has that digit in lower case
abbrev back : ℕ → Option ℕ → Bool
back c None = true
back c (Some v) = slice_index lower_digits v == to_ascii_lowercase c

abbrev all_back : ℕ → Bool
all_back zero = true
all_back (suc n) = back n (hex_digit_value n) && all_back n

all_back-at : (n k : ℕ) → all_back n ≡ true → k < n → back k (hex_digit_value k) ≡ true
all_back-at zero k h lt = absurd (omega arith)
all_back-at (suc n) k h lt =
    let parts = and_parts (back n (hex_digit_value n)) (all_back n) h in
    elim (cases_lt k n) [
      | inl below ↦ all_back-at n k parts.1 below
      | inr top ↦
          let e : k ≡ n = omega arith in
          rw e parts.0
    ]

is_small : (c v : ℕ) → hex_digit_value c ≡ Some v → (c < 103) × (v < 16)
is_small c v h = (grind (arith), grind (arith))

back-some : (c v : ℕ) (o : Option ℕ) → o ≡ Some v → back c o ≡ true → slice_index lower_digits v ≡ to_ascii_lowercase c
back-some c v o e h = eqb-true (slice_index lower_digits v) (to_ascii_lowercase c) (rw e at h)

-- a digit's value shows as the digit in lower case
pub digit_back : (c v : ℕ) → hex_digit_value c ≡ Some v → slice_index lower_digits v ≡ to_ascii_lowercase c
digit_back c v h = back-some c v (hex_digit_value c) h (all_back-at 103 c refl (is_small c v h).0)

bind_ok : {A B : Type 0} (r : Result A FromHexError) (f : A → Result B FromHexError) (y : B)
    → (r >>= f) ≡ Ok y → (x : A) × (r ≡ Ok x) × (f x ≡ Ok y)
bind_ok (Ok x) f y h = (x, refl, h)
bind_ok (Err e) f y h = cc h

digit_read : (c i : ℕ) (o : Option ℕ) (v : ℕ) → digit_or_error c i o ≡ Ok v → o ≡ Some v
digit_read c i (Some w) v h = ap Some (ap (λ (r : Result ℕ FromHexError). result_unwrap_or r 0) h)
digit_read c i None v h = cc h

-- the bytes of some pairs of digits print as those digits in lower case
pub encode-decode_pairs : (i : ℕ) (s bytes : List ℕ) → decode_pairs i s ≡ Ok bytes → encode_lower bytes ≡ map to_ascii_lowercase s
unfolding decode_pairs encode_with
encode-decode_pairs i [] bytes h =
    let e : [] ≡ bytes = ap (λ (r : Result (List ℕ) FromHexError). result_unwrap_or r []) h in
    rw (← e) refl
encode-decode_pairs i (a ∷ []) bytes h = cc h
encode-decode_pairs i (a ∷ b ∷ rest) bytes h =
    let p0 = bind_ok (pair_value a b i) _ bytes h in
    let p1 = bind_ok (value_at a i) _ p0.0 p0.1 in
    let p2 = bind_ok (value_at b (i + 1)) _ p0.0 p1.2 in
    let p3 = bind_ok (decode_pairs (i + 2) rest) _ bytes p0.2 in
    let ih = encode-decode_pairs (i + 2) rest p3.0 p3.1 in
    let e : p0.0 ∷ p3.0 ≡ bytes = ap (λ (r : Result (List ℕ) FromHexError). result_unwrap_or r []) p3.2 in
    let ra = digit_read a i (hex_digit_value a) p1.0 p1.1 in
    let rb = digit_read b (i + 1) (hex_digit_value b) p2.0 p2.1 in
    let small = (is_small b p2.0 rb).1 in
    let byte : p1.0 * 16 + p2.0 ≡ p0.0 = ap (λ (r : Result ℕ FromHexError). result_unwrap_or r 0) p2.2 in
    let high : p0.0 / 16 ≡ p1.0 = omega arith in
    let low : p0.0 % 16 ≡ p2.0 = omega arith in
    rw (← e, high, low, digit_back a p1.0 ra, digit_back b p2.0 rb, ih) refl

-- filling up with zeros and lower case go together
pub lower-padded : (text : List ℕ) → map to_ascii_lowercase (padded text) ≡ padded (map to_ascii_lowercase text)
lower-padded text =
    rw (map-append, length-map, ← drop-map) refl

-- the first of the digits that a filled up text is read as are the text in lower case
pub prefix_shows : (text digits : List ℕ) → digits ≡ map to_ascii_lowercase (padded text)
    → take (length text) digits ≡ map to_ascii_lowercase text
prefix_shows text digits e =
    let low = map to_ascii_lowercase text in
    let len : length low ≡ length text = rw length-map refl in
    rw (e, lower-padded text, ← len) (take-append_seam low _)

-- and filling those up again gives all of them
pub prefix_zeros : (text digits : List ℕ) → digits ≡ map to_ascii_lowercase (padded text)
    → padded (take (length text) digits) ≡ digits
prefix_zeros text digits e = rw (prefix_shows text digits e) (sym (lower-padded text) ∙ sym e)

-- a text is digits if it is once it is filled up
pub digits_from_padded : (text : List ℕ) → AllPass is_hex_digit (padded text) → AllPass is_hex_digit text
digits_from_padded text h k d lt =
    let at = h k d (rw length-append (omega arith)) in
    rw (get_or_append_left text _ d k lt) at at

-- the bytes that a text of twenty pairs reads as print as it in lower case
pub id_shows : (text bytes : List ℕ) → decode_sized text 20 ≡ Ok bytes → encode_lower bytes ≡ map to_ascii_lowercase text
id_shows text bytes h =
    let len = decode_sized-ok text 20 bytes h in
    let even : length text % 2 ≡ 0 = omega arith in
    encode-decode_pairs 0 text bytes (sym (decode_of-even text even) ∙ (sym (decode_sized-twice text 20 len) ∙ h))
