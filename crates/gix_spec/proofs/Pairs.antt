-- Where a pair of braces closes, and what it holds.
use Rattle.std.proofs.Common.{◌≡◌, ℕ, zero, suc, ◌+◌, ◌-◌, ◌<◌, ◌≤◌, ◌==◌, ◌||◌, ◌&&◌, not, cond, List, [], ◌∷◌, ◌++◌, Bool, true, false, Some, None, if◌then◌else◌, length, get_or, slice_index, take, drop, refl, sym, ◌∙◌, ap, subst, arith, length-drop, eq-eqb}
use Rattle.std.specs.Prelude.{nat_lt}
use Rattle.std.proofs.Math.Seq.{take-suc}
use Rattle.std.proofs.lemmas.Bool.{ne_eqb, eqb-true, lt-ltb, ltb-true, ltb-false}
use Rattle.std.proofs.lemmas.List.{get_or-drop, take_all}
use Rattle.gix_spec.specs.Marks.{brace, starts_with}
use Rattle.gix_spec.specs.Braces.{is_special, follows_escape, is_escaped, counted, is_level, close_of, has_escape, meant_of, Braced, braced_to, braced_at}
use Rattle.gix_spec.specs.Opens.{IsLevel, IsClose}
use Rattle.gix_spec.proofs.Places.{IsLeast, least_from-is, least_from-least}

-- the least place where as many braces close as open
pub close_of-is : (text : List ℕ) (n : ℕ) → IsClose text n → close_of text ≡ n
unfolding close_of is_level
close_of-is text n h =
    least_from-is (is_level text) (length text) 0 n (record {
      low = omega arith;
      high = omega (arith, h.0);
      none = λ j low before. ne_eqb _ _ (h.2 j before);
      found = λ within. eq-eqb _ _ h.1;
    })

-- where they never do
pub close_of-none : (text : List ℕ) → ((k : ℕ) → k < length text → IsLevel text k → ⊥) → close_of text ≡ length text
unfolding close_of is_level
close_of-none text none =
    least_from-is (is_level text) (length text) 0 (length text) (record {
      low = omega arith;
      high = omega arith;
      none = λ j low before. ne_eqb _ _ (none j before);
      found = λ within. absurd (omega arith);
    })

close_within : (text : List ℕ) → close_of text ≤ length text
unfolding close_of
close_within text = let least : IsLeast (is_level text) (length text) 0 (close_of text) = least_from-least (is_level text) (length text) 0 in omega (arith, least.high)

-- one more byte
pub follows_next : (text : List ℕ) (n : ℕ) (before now : Bool) → before ≡ follows_escape text n → now ≡ ((slice_index text n == 92) && not before) → now ≡ follows_escape text (n + 1)
follows_next text n before now h e = let next : n + 1 ≡ suc n = omega arith in rw (next, e, h) refl

pub escapes_next : (text : List ℕ) (n : ℕ) (before now follows : Bool) → before ≡ has_escape text n → follows ≡ follows_escape text n →
    now ≡ (before || (is_special (slice_index text n) && follows)) → now ≡ has_escape text (n + 1)
escapes_next text n before now follows h k e = let next : n + 1 ≡ suc n = omega arith in rw (next, e, h, k) refl

-- how often it is a mark
abbrev Counts : (text : List ℕ) (n mark : ℕ) (follows : Bool) (count : ℕ) → Type 0
Counts text n mark follows count = count ≡ cond ((slice_index text n == mark) && not (is_special (slice_index text n) && follows)) 1 0

counted_next : (text : List ℕ) (n mark count : ℕ) (follows : Bool) → follows ≡ follows_escape text n → Counts text n mark follows count → counted mark text (suc n) ≡ counted mark text n + count
counted_next text n mark count follows h e = rw (e, h) refl

pub level_next : (text : List ℕ) (n depth opened closed : ℕ) (follows : Bool) → follows ≡ follows_escape text n → Counts text n 123 follows opened → Counts text n 125 follows closed →
    depth + counted 125 text n ≡ counted 123 text n → closed ≤ depth + opened → depth + opened - closed + counted 125 text (n + 1) ≡ counted 123 text (n + 1)
level_next text n depth opened closed follows h e f level fits =
    let next : n + 1 ≡ suc n = omega arith in
    let more : counted 123 text (suc n) ≡ counted 123 text n + opened = counted_next text n 123 opened follows h e in
    let less : counted 125 text (suc n) ≡ counted 125 text n + closed = counted_next text n 125 closed follows h f in
    rw next (omega (arith, more, less, level, fits))

pub at_most_one : (b : Bool) (count : ℕ) → count ≡ cond b 1 0 → count ≤ 1
at_most_one true count h = omega (arith, h)
at_most_one false count h = omega (arith, h)

no_close_first : (b : ℕ) (rest : List ℕ) (closed : ℕ) (follows : Bool) → (b == 123) ≡ true → Counts (b ∷ rest) 0 125 follows closed → closed ≡ 0
no_close_first b rest closed follows h e =
    let same : b ≡ 123 = eqb-true b 123 h in (rw same at e)

-- no more braces close than are open
pub closed_fits : (text : List ℕ) (n depth closed : ℕ) (follows : Bool) → starts_with brace text ≡ true → (0 < n → 0 < depth) → Counts text n 125 follows closed → closed ≤ depth
closed_fits [] n depth closed follows h some e = cc
closed_fits (b ∷ rest) zero depth closed follows h some e = omega (arith, no_close_first b rest closed follows h e)
closed_fits (b ∷ rest) (suc n) depth closed follows h some e = omega (arith, some (omega arith), at_most_one _ closed e)

-- where no brace is open behind a place, the pair closes there
pub level_there : (text : List ℕ) (n depth : ℕ) → depth + counted 125 text (n + 1) ≡ counted 123 text (n + 1) → depth ≡ 0 → counted 123 text (suc n) ≡ counted 125 text (suc n)
level_there text n depth level none =
    let next : n + 1 ≡ suc n = omega arith in
    let balance : depth + counted 125 text (suc n) ≡ counted 123 text (suc n) = rw next at level in omega (arith, balance, none)

none_by : (text : List ℕ) (n k : ℕ) (b : Bool) → nat_lt k n ≡ b → k < n + 1 → (k < n → IsLevel text k → ⊥) → (IsLevel text n → ⊥) → IsLevel text k → ⊥
none_by text n k true e h before here level = before (ltb-true k n e) level
none_by text n k false e h before here level =
    let same : k ≡ n = omega (arith, h, ltb-false k n e) in here (subst (λ m. IsLevel text m) same level)

pub none_next : (text : List ℕ) (n depth : ℕ) → ((k : ℕ) → k < n → IsLevel text k → ⊥) → depth + counted 125 text (n + 1) ≡ counted 123 text (n + 1) → (depth ≡ 0 → ⊥) →
    (k : ℕ) → k < n + 1 → IsLevel text k → ⊥
none_next text n depth before level some k h =
    let next : n + 1 ≡ suc n = omega arith in
    let balance : depth + counted 125 text (suc n) ≡ counted 123 text (suc n) = rw next at level in
    none_by text n k (nat_lt k n) refl h (before k) (λ here. some (omega (arith, balance, here)))

-- one more byte of what is meant
pub meant_next : (text : List ℕ) (n : ℕ) (before now : List ℕ) (follows left_out : Bool) → before ≡ meant_of text n → follows ≡ follows_escape text (n + 1 + 1) →
    left_out ≡ (is_special (slice_index text (n + 2)) && follows) → now ≡ before ++ cond left_out [] (slice_index text (n + 1) ∷ []) → now ≡ meant_of text (n + 1)
meant_next text n before now follows left_out h k l e =
    let next : n + 1 ≡ suc n = omega arith in
    let two : n + 1 + 1 ≡ n + 2 = omega arith in
    let escaped : left_out ≡ is_escaped text (n + 2) = l ∙ rw (rw two at k) refl in
    let joins : before ++ cond left_out [] (slice_index text (n + 1) ∷ []) ≡ meant_of text (suc n) = rw (escaped, h) refl in
    e ∙ (joins ∙ sym (ap (meant_of text) next))

-- a text without escapes is meant as it is written: one more byte
one_more : (a b : Bool) (x y : List ℕ) (i : ℕ) → (a || b) ≡ false → (a ≡ false → x ≡ y) → x ++ cond b [] (i ∷ []) ≡ y ++ (i ∷ [])
one_more false false x y i h e = ap (λ z. z ++ (i ∷ [])) (e refl)
one_more false true x y i h e = cc
one_more true b x y i h e = cc

meant_as_written : (text : List ℕ) (n : ℕ) → n + 1 ≤ length text → has_escape text (n + 2) ≡ false → meant_of text n ≡ take n (drop 1 text)
meant_as_written text zero h k = refl
meant_as_written text (suc n) h k =
    let room : n < length (drop 1 text) = simp length-drop (omega arith) in
    let order : 1 + n ≡ n + 1 = omega arith in
    let shift : suc n + 2 ≡ suc (n + 2) = omega arith in
    let plain : has_escape text (suc (n + 2)) ≡ false = subst (λ m. has_escape text m ≡ false) shift k in
    rw (take-suc (drop 1 text) n 0, get_or-drop, order)
    (one_more (has_escape text (n + 2)) (is_escaped text (n + 2)) (meant_of text n) (take n (drop 1 text)) (get_or text (n + 1) 0) plain (λ e. meant_as_written text n (omega arith) e))

not_less_by : (n : ℕ) (b : Bool) → nat_lt n n ≡ b → b ≡ false
not_less_by n true h = absurd (omega (arith, ltb-true n n h))
not_less_by n false h = refl

not_less : (n : ℕ) → nat_lt n n ≡ false
not_less n = not_less_by n (nat_lt n n) refl

-- the pair that closes at place n
pub braced_there : (text : List ℕ) (n : ℕ) (escapes : Bool) → IsClose text n → escapes ≡ has_escape text (n + 1) →
    braced_at text ≡ Some (record { raw = take (n - 1) (drop 1 text); meant = meant_of text (n - 1); escapes = escapes; rest = take (length text - (n + 1)) (drop (n + 1) text) })
braced_there text n escapes h e =
    let all : take (length text - (n + 1)) (drop (n + 1) text) ≡ drop (n + 1) text = take_all _ _ (omega (arith, length-drop (n + 1) text)) in
    rw (e, all, close_of-is text n h, lt-ltb n (length text) h.0) refl

-- and with it no escape
pub braced_plain : (text : List ℕ) (n : ℕ) (escapes : Bool) → IsClose text n → 0 < n → escapes ≡ has_escape text (n + 1) → escapes ≡ false →
    braced_at text ≡ Some (record { raw = take (n - 1) (drop 1 text); meant = take (n - 1) (drop 1 text); escapes = escapes; rest = take (length text - (n + 1)) (drop (n + 1) text) })
braced_plain text n escapes h first e k =
    let shift : n + 1 ≡ n - 1 + 2 = omega (arith, first) in
    let none : has_escape text (n - 1 + 2) ≡ false = subst (λ m. has_escape text m ≡ false) shift (sym e ∙ k) in
    let same : meant_of text (n - 1) ≡ take (n - 1) (drop 1 text) = meant_as_written text (n - 1) (omega (arith, h.0, first)) none in
    rw same at (braced_there text n escapes h e)

-- no pair
pub braced_none : (text : List ℕ) → ((k : ℕ) → k < length text → IsLevel text k → ⊥) → braced_at text ≡ None
braced_none text h = rw (close_of-none text h, not_less (length text)) refl

if_some : (b : Bool) (y x : Braced) → (if b then Some y else None) ≡ Some x → (b ≡ true) × (y ≡ x)
if_some true y x h = (refl, cc)
if_some false y x h = cc

-- a pair is what stands up to its close, which is a place of the text
pub pair_of : (text : List ℕ) (x : Braced) → braced_at text ≡ Some x → (close_of text < length text) × (braced_to text (close_of text) ≡ x)
pair_of text x h =
    let both = if_some (nat_lt (close_of text) (length text)) (braced_to text (close_of text)) x h in
    (ltb-true (close_of text) (length text) both.0, both.1)

-- a pair that does not close has its close at the end
never_closes : (b : Bool) (y : Braced) → (if b then Some y else None) ≡ None → b ≡ false
never_closes true y h = cc
never_closes false y h = refl

pub no_pair : (text : List ℕ) → braced_at text ≡ None → close_of text ≡ length text
no_pair text h =
    let past : length text ≤ close_of text = ltb-false _ _ (never_closes (nat_lt (close_of text) (length text)) (braced_to text (close_of text)) h) in
    omega (arith, past, close_within text)
