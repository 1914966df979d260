-- The text of a pair of braces: where the pair closes stands a closing one.
use Rattle.std.proofs.Common.{◌≡◌, ℕ, zero, suc, ◌+◌, ◌-◌, ◌<◌, ◌≤◌, ◌==◌, ◌&&◌, not, cond, List, [], ◌∷◌, ◌++◌, Bool, true, false, length, get_or, slice_index, take, drop, refl, sym, ◌∙◌, ap, subst, arith, eq-eqb, append_assoc, length-append, length-drop}
use Rattle.std.specs.Prelude.{nat_lt}
use Rattle.std.proofs.lemmas.Bool.{eqb-true, ltb-true, ltb-false}
use Rattle.std.proofs.lemmas.List.{take-append-drop, drop_more, get_or_append_left, length-take-le}
use Rattle.gix_spec.specs.Marks.{brace, starts_with}
use Rattle.gix_spec.specs.Braces.{is_special, follows_escape, is_escaped, counted, is_level, close_of, meant_of, Braced, braced_to}
use Rattle.gix_spec.specs.Written.{meant_in}
use Rattle.gix_spec.proofs.Places.{not_both, IsLeast, least_from-least}
use Rattle.gix_spec.proofs.Pairs.{at_most_one}
use Rattle.gix_spec.proofs.Sound.{first_true}

-- a pair of braces at the front of a text
abbrev pub OpensWith : (x : Braced) → (text : List ℕ) → Type 0
OpensWith x text = text ≡ brace ∷ (x.raw ++ (125 ∷ x.rest))

-- up to where it closes more braces open than close
level_same : (text : List ℕ) (n : ℕ) → is_level text n ≡ true → counted 123 text (suc n) ≡ counted 125 text (suc n)
unfolding is_level
level_same text n h = eqb-true _ _ h

level_differs : (text : List ℕ) (n : ℕ) → is_level text n ≡ false → counted 123 text (suc n) ≡ counted 125 text (suc n) → ⊥
unfolding is_level
level_differs text n h same = not_both _ (eq-eqb _ _ same) h

-- whether a place holds this byte, and not escaped
abbrev holds : (mark : ℕ) (text : List ℕ) (n : ℕ) → Bool
holds mark text n = (slice_index text n == mark) && not (is_escaped text n)

deeper_where : (a b c d : ℕ) (less : Bool) → nat_lt (a + c) (b + d) ≡ less → a < b → c ≤ 1 → (b + d ≡ a + c → ⊥) → a + c < b + d
deeper_where a b c d true e h k other = ltb-true _ _ e
deeper_where a b c d false e h k other = let past : b + d ≤ a + c = ltb-false (a + c) (b + d) e in absurd (other (omega (arith, h, k, past)))

deeper : (more : List ℕ) (n : ℕ) → ((i : ℕ) → i < suc n → is_level (brace ∷ more) i ≡ false) → counted 125 (brace ∷ more) (suc n) < counted 123 (brace ∷ more) (suc n)
deeper more zero h = omega arith
deeper more (suc n) h =
    let text : List ℕ = brace ∷ more in
    let before : counted 125 text (suc n) < counted 123 text (suc n) = deeper more n (λ i low. h i (omega (arith, low))) in
    let one : cond (holds 125 text (suc n)) 1 0 ≤ 1 = at_most_one (holds 125 text (suc n)) _ refl in
    let other : counted 123 text (suc (suc n)) ≡ counted 125 text (suc (suc n)) → ⊥ = level_differs text (suc n) (h (suc n) (omega arith)) in
    deeper_where (counted 125 text (suc n)) (counted 123 text (suc n)) (cond (holds 125 text (suc n)) 1 0) (cond (holds 123 text (suc n)) 1 0) _ refl before one other

is_counted : (b : Bool) (a c d : ℕ) → a < c → c + d ≡ a + cond b 1 0 → b ≡ true
is_counted true a c d h k = refl
is_counted false a c d h k = absurd (omega (arith, h, k))

-- a text falls into what stands before a place, its byte, and what stands behind
split_at : (k : ℕ) (xs : List ℕ) → k < length xs → xs ≡ take k xs ++ (get_or xs k 0 ∷ drop (suc k) xs)
split_at k xs within =
    let behind : drop k xs ≡ get_or xs k 0 ∷ drop (k + 1) xs = drop_more xs k 0 within in
    let next : k + 1 ≡ suc k = omega arith in
    sym (take-append-drop k xs) ∙ ap (λ ys. take k xs ++ ys) (rw next at behind)

closes_at : (more : List ℕ) (n : ℕ) → ((i : ℕ) → i < n → is_level (brace ∷ more) i ≡ false) → is_level (brace ∷ more) n ≡ true → n < length (brace ∷ more) →
    OpensWith (braced_to (brace ∷ more) n) (brace ∷ more)
closes_at more zero none h k = let same : 1 ≡ 0 = level_same (brace ∷ more) 0 h in absurd (omega (arith, same))
closes_at more (suc n) none h k =
    let text : List ℕ = brace ∷ more in
    let here : holds 125 text (suc n) ≡ true =
    is_counted (holds 125 text (suc n)) (counted 125 text (suc n)) (counted 123 text (suc n)) (cond (holds 123 text (suc n)) 1 0) (deeper more n none) (level_same text (suc n) h) in
    let byte : get_or more n 0 ≡ 125 = eqb-true _ _ (first_true (slice_index text (suc n) == 125) (not (is_escaped text (suc n))) here) in
    let shift : suc n - 1 ≡ n = omega arith in
    let next : suc n + 1 ≡ suc (suc n) = omega arith in
    rw (shift, next) (ap (λ xs. brace ∷ xs) (split_at n more (omega (arith, k)) ∙ ap (λ b. take n more ++ (b ∷ drop (suc n) more)) byte))

opens_where : (b : ℕ) (more : List ℕ) (n : ℕ) → brace ≡ b → ((i : ℕ) → i < n → is_level (b ∷ more) i ≡ false) → is_level (b ∷ more) n ≡ true → n < length (b ∷ more) →
    OpensWith (braced_to (b ∷ more) n) (b ∷ more)
opens_where b more n same =
    subst (λ c. ((i : ℕ) → i < n → is_level (c ∷ more) i ≡ false) → is_level (c ∷ more) n ≡ true → n < length (c ∷ more) → OpensWith (braced_to (c ∷ more) n) (c ∷ more)) same
    (closes_at more n)

close_least : (text : List ℕ) → IsLeast (is_level text) (length text) 0 (close_of text)
unfolding close_of
close_least text = least_from-least (is_level text) (length text) 0

pub opens_with : (text : List ℕ) → starts_with brace text ≡ true → close_of text < length text → OpensWith (braced_to text (close_of text)) text
opens_with [] h k = cc
opens_with (b ∷ more) h k =
    let least : IsLeast (is_level (b ∷ more)) (length (b ∷ more)) 0 (close_of (b ∷ more)) = close_least (b ∷ more) in
    opens_where b more (close_of (b ∷ more)) (sym (eqb-true b brace h)) (λ i low. least.none i (omega arith) low) (least.found (omega (arith, k))) k

-- The text without escapes depends on the pair alone, and not on the text after it.
escape_front : (xs ys : List ℕ) (k : ℕ) → k ≤ length xs → follows_escape (xs ++ ys) k ≡ follows_escape xs k
escape_front xs ys zero h = refl
escape_front xs ys (suc k) h =
    let byte : slice_index (xs ++ ys) k ≡ slice_index xs k = get_or_append_left xs ys 0 k (omega (arith, h)) in
    ap (λ b. (b == 92) && not (follows_escape (xs ++ ys) k)) byte
    ∙ ap (λ f. (slice_index xs k == 92) && not f) (escape_front xs ys k (omega (arith, h)))

escaped_front : (xs ys : List ℕ) (k : ℕ) → k < length xs → is_escaped (xs ++ ys) k ≡ is_escaped xs k
escaped_front xs ys k h =
    ap (λ b. is_special b && follows_escape (xs ++ ys) k) (get_or_append_left xs ys 0 k h)
    ∙ ap (λ f. is_special (slice_index xs k) && f) (escape_front xs ys k (omega (arith, h)))

meant_front : (xs ys : List ℕ) (n : ℕ) → n + 1 < length xs → meant_of (xs ++ ys) n ≡ meant_of xs n
meant_front xs ys zero h = refl
meant_front xs ys (suc k) h =
    ap (λ m. m ++ cond (is_escaped (xs ++ ys) (k + 2)) [] (slice_index (xs ++ ys) (k + 1) ∷ [])) (meant_front xs ys k (omega (arith, h)))
    ∙ (ap (λ e. meant_of xs k ++ cond e [] (slice_index (xs ++ ys) (k + 1) ∷ [])) (escaped_front xs ys (k + 2) (omega (arith, h)))
    ∙ ap (λ b. meant_of xs k ++ cond (is_escaped xs (k + 2)) [] (b ∷ [])) (get_or_append_left xs ys 0 (k + 1) (omega (arith, h))))

pub means_inner : (text : List ℕ) (n : ℕ) → n < length text → OpensWith (braced_to text n) text → meant_of text (n - 1) ≡ meant_in (take (n - 1) (drop 1 text))
means_inner text n h k =
    let raw : List ℕ = take (n - 1) (drop 1 text) in
    let long : length raw ≡ n - 1 = length-take-le (n - 1) (drop 1 text) (omega (arith, h, length-drop 1 text)) in
    let split : text ≡ (brace ∷ (raw ++ (125 ∷ []))) ++ drop (n + 1) text =
    k ∙ ap (λ xs. brace ∷ xs) (sym (append_assoc raw (125 ∷ []) (drop (n + 1) text))) in
    ap (λ t. meant_of t (n - 1)) split
    ∙ (meant_front (brace ∷ (raw ++ (125 ∷ []))) (drop (n + 1) text) (n - 1) (omega (arith, long, length-append raw (125 ∷ [])))
    ∙ ap (λ m. meant_of (brace ∷ (raw ++ (125 ∷ []))) m) (sym long))

-- a pair of braces at the front of a text, and its text without escapes
pub record Holds (x : Braced) (text : List ℕ) : Type 0 where
  pub opens : OpensWith x text
  pub means : x.meant ≡ meant_in x.raw

pub holds_pair : (text : List ℕ) → starts_with brace text ≡ true → close_of text < length text → Holds (braced_to text (close_of text)) text
holds_pair text h k =
    let opens : OpensWith (braced_to text (close_of text)) text = opens_with text h k in
    record { opens = opens; means = means_inner text (close_of text) k opens }
