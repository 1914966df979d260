-- A prefix is what its text says.
use Rattle.std.proofs.Common.{◌≡◌, ◌↔◌, ℕ, ◌≤◌, ◌*◌, List, length, take, drop, replicate, refl, sym, ap, ◌∙◌, arith, true, nat_eq, ◌&&◌, eq-eqb, append-nil}
use Rattle.std.specs.Ordering.{nat_cmp, ordering_then, is_eq}
use Rattle.std.specs.Cmp.{Equal-is}
use Rattle.std.proofs.lemmas.Map.Text.{is_eq-slice_cmp}
use Rattle.std.specs.Cmp.Lexicographic.{slice_cmp, same_text}
use Rattle.std.specs.Str.{bytes_eq}
use Rattle.std.proofs.lemmas.Bool.{and_parts, eqb-true}
use Rattle.std.proofs.lemmas.Slice.Eq.{bytes_eq-Decides}
use Rattle.std.proofs.Props.{props}
use mathlib.Core.HLevel.{is_prop→PathP}
use Rattle.std.specs.Char.{to_ascii_lowercase}
use Rattle.std.specs.Str.{str_to_ascii_lowercase}
use Rattle.std.proofs.lemmas.List.{length-take, length-append, length-drop, length-replicate, take-map, take_all}
use Rattle.std.proofs.lemmas.List.Elements.{All-take}
use Rattle.hex.specs.Hex.{lower_digits, IsBytes, is_hex_digit}
use Rattle.hex.proofs.HexLemmas.{length-encode_with}
use Rattle.gix_base.specs.Digits.{digits_of, bytes_of}
use Rattle.gix_base.specs.Hash.{id_text, padded, IsId}
use Rattle.gix_base.specs.Prefix.{prefix_text, padded_bytes, IsPrefixText, IsFullPrefix, prefix_order}
use Rattle.gix_base.specs.Laws.{PrefixesReadBack, IdsHaveFullPrefixes, EqualIsBeginning}
use Rattle.gix_base.specs.declared.hash.ObjectId.{ObjectId}
use Rattle.gix_base.specs.declared.hash.Prefix.{Prefix}
use Rattle.gix_base.proofs.ReadBack.{bytes_of-digits_of, AreDigits-digits_of, lower-digits_of, length-id_text}

-- a text filled up has 40 digits
pub length-padded : (text : List ℕ) → length text ≤ 40 → length (padded text) ≡ 40
length-padded text h =
    omega (arith, length-append text (drop (length text) (replicate 40 48)), length-drop {A = ℕ} (length text) (replicate 40 48), length-replicate {A = ℕ} 40 48)

-- the bytes of a prefix's padded text are those of its id
pub padded_bytes-id : (p : Prefix) → padded_bytes p ≡ p.id.0
padded_bytes-id p = ap bytes_of p.zeros ∙ bytes_of-digits_of p.id.0 p.bytes

-- its id has 20 bytes
pub length-id : (p : Prefix) → length p.id.0 ≡ 20
length-id p =
    let digits : length (digits_of p.id.0) ≡ 2 * length p.id.0 = length-encode_with lower_digits p.id.0 in
    let long : length (padded (take p.hex_len (digits_of p.id.0))) ≡ length (digits_of p.id.0) = ap length p.zeros in
    let first = length-take p.hex_len (digits_of p.id.0) in
    let at_most : p.hex_len ≤ 40 = p.at_most in
    let all = length-padded (take p.hex_len (digits_of p.id.0)) (omega (arith, first, at_most)) in
    omega (arith, digits, long, all)

-- its text has as many digits as it says
pub length-prefix_text : (p : Prefix) → length (prefix_text p) ≡ p.hex_len
length-prefix_text p =
    let digits : length (digits_of p.id.0) ≡ 2 * length p.id.0 = length-encode_with lower_digits p.id.0 in
    let at_most : p.hex_len ≤ 40 = p.at_most in
    omega (arith, length-take p.hex_len (digits_of p.id.0), digits, length-id p, at_most)

-- and so are two of the same id and number of digits
same_parts : (p q : Prefix) → p.id ≡ q.id → p.hex_len ≡ q.hex_len → p ≡ q
same_parts p q e f i = record {
  id = e i;
  hex_len = f i;
  at_least = is_prop→PathP (λ j. 4 ≤ f j) (λ j. Prim.hlevel props) p.at_least q.at_least i;
  at_most = is_prop→PathP (λ j. f j ≤ 40) (λ j. Prim.hlevel props) p.at_most q.at_most i;
  bytes = is_prop→PathP (λ j. IsBytes (e j).0) (λ j. Prim.hlevel props) p.bytes q.bytes i;
  zeros = is_prop→PathP (λ j. padded (take (f j) (digits_of (e j).0)) ≡ digits_of (e j).0) (λ j. Prim.hlevel props) p.zeros q.zeros i;
}

-- two prefixes with the same text are one
pub prefix_text-injective : (p q : Prefix) → prefix_text p ≡ prefix_text q → p ≡ q
prefix_text-injective p q h =
    let bytes : p.id.0 ≡ q.id.0 = sym (padded_bytes-id p) ∙ (ap (λ text. bytes_of (padded text)) h ∙ padded_bytes-id q) in
    let id : p.id ≡ q.id = ap (λ (b : List ℕ). let id : ObjectId = record { 0 = b } in id) bytes in
    same_parts p q id (sym (length-prefix_text p) ∙ (ap length h ∙ length-prefix_text q))

-- equal prefixes are the same
pub equal_is_same : (p q : Prefix) → (bytes_eq p.id.0 q.id.0 && nat_eq p.hex_len q.hex_len ≡ true) ↔ (p ≡ q)
equal_is_same p q = (
  λ h.
      let parts = and_parts (bytes_eq p.id.0 q.id.0) (nat_eq p.hex_len q.hex_len) h in
      let bytes = same_text p.id.0 q.id.0 (sym parts.0) in
      same_parts p q (ap (λ (b : List ℕ). let id : ObjectId = record { 0 = b } in id) bytes) (eqb-true p.hex_len q.hex_len parts.1),
  λ e.
      let bytes = (bytes_eq-Decides p.id.0 q.id.0).1 (ap (λ (r : Prefix). r.id.0) e) in
      let digits = eq-eqb p.hex_len q.hex_len (ap (λ (r : Prefix). r.hex_len) e) in
      rw (bytes, digits) refl,
)

-- the order of prefixes
pub order_is : (p q : Prefix) → ordering_then (slice_cmp nat_cmp p.id.0 q.id.0) (nat_cmp p.hex_len q.hex_len) ≡ prefix_order p q
order_is p q = rw (padded_bytes-id p, padded_bytes-id q, length-prefix_text p, length-prefix_text q) refl

-- the text of a prefix can be read as a prefix
pub IsPrefixText-prefix_text : (p : Prefix) → IsPrefixText (prefix_text p)
IsPrefixText-prefix_text p =
    let long = length-prefix_text p in
    let at_least : 4 ≤ p.hex_len = p.at_least in
    let at_most : p.hex_len ≤ 40 = p.at_most in
    (omega (arith, long, at_least), omega (arith, long, at_most), All-take (λ byte. is_hex_digit byte ≡ true) p.hex_len (digits_of p.id.0) (AreDigits-digits_of p.id.0 p.bytes))

-- it is in lower case
pub lower-prefix_text : (p : Prefix) → str_to_ascii_lowercase (prefix_text p) ≡ prefix_text p
lower-prefix_text p = sym (take-map to_ascii_lowercase p.hex_len (digits_of p.id.0)) ∙ ap (take p.hex_len) (lower-digits_of p.id.0 p.bytes)

pub prefix_reads_back : PrefixesReadBack
prefix_reads_back p =
    (IsPrefixText-prefix_text p, lower-prefix_text p, λ q h. prefix_text-injective q p h)

-- filling up changes nothing where there are 40 digits
padded-full : (text : List ℕ) → length text ≡ 40 → padded text ≡ text
padded-full text long = rw long (append-nil text)

-- the prefix of all digits of an id
pub full_prefix_of : (id : ObjectId) → IsId id → Prefix
full_prefix_of id h =
    let long = length-id_text id h in
    record {
      id = id;
      hex_len = 40;
      at_least = omega arith;
      at_most = omega arith;
      bytes = h.1;
      zeros = rw (take_all 40 (id_text id) (omega (arith, long))) (padded-full (id_text id) long);
    }

-- its text is that of the id
pub IsFullPrefix-full_prefix_of : (id : ObjectId) (h : IsId id) → IsFullPrefix (full_prefix_of id h) id
unfolding full_prefix_of
IsFullPrefix-full_prefix_of id h = take_all 40 (id_text id) (omega (arith, length-id_text id h))

pub have_full_prefixes : IdsHaveFullPrefixes
have_full_prefixes id h = (full_prefix_of id h, IsFullPrefix-full_prefix_of id h)

pub equal_is_beginning : EqualIsBeginning
equal_is_beginning p id =
    let own = prefix_text p in
    let other = take (length (prefix_text p)) (id_text id) in
    let same = bytes_eq-Decides own other in (
      λ h. sym (same.0 (sym (is_eq-slice_cmp own other) ∙ ap is_eq h)),
      λ h. (Equal-is (slice_cmp nat_cmp own other)).0 (is_eq-slice_cmp own other ∙ same.1 (sym h)),
    )
