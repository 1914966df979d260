-- Headers of loose objects.
use Rattle.std.proofs.Common.{◌≡◌, ◌≢◌, ℕ, suc, ◌+◌, ◌-◌, ◌*◌, ◌%◌, ◌^◌, ◌<◌, ◌≤◌, ◌==◌, not, cond, List, [], ◌∷◌, ◌++◌, length, take, drop, true, false, refl, sym, ap, ◌∙◌, arith, length-append, get_or}
use Rattle.std.proofs.Math.Seq.{take-append_seam, drop-append-add}
use Rattle.std.proofs.lemmas.List.Sums.{split_at_first, passes_at_first}
use Rattle.std.proofs.lemmas.Bool.{false_from_ne_true}
use Rattle.std.proofs.lemmas.Bool.Decides.{Decides-eqb}
use Rattle.std.proofs.lemmas.Fmt.{decimal_by_steps, length-decimal-le}
use Rattle.std.specs.Char.{is_ascii_digit}
use Rattle.std.specs.Fmt.{decimal}
use Rattle.std.specs.List.{prefix_len}
use Rattle.gix_base.specs.declared.object.Kind.{Kind}
use Rattle.gix_base.specs.declared.object.Kind.TheVariants.{Tree, Blob, Commit, Tag}
use Rattle.gix_object.specs.CommitTime.{number_of, number_after}
use Rattle.gix_object.specs.Lines.{place_of, before, after, Occurs}
use Rattle.gix_object.specs.ObjectForm.{kind_name, kind_and_size, HasHeader, IsHeader, stored, IsLoose}

-- The text has no byte of this value.
abbrev pub Lacks : ℕ → List ℕ → Type 0
Lacks byte [] = Unit {0}
Lacks byte (b ∷ bs) = (b ≢ byte) × Lacks byte bs

lacks-append : (byte : ℕ) (xs ys : List ℕ) → Lacks byte xs → Lacks byte ys → Lacks byte (xs ++ ys)
lacks-append byte [] ys a b = b
lacks-append byte (x ∷ xs) ys a b = (a.0, lacks-append byte xs ys a.1 b)

one-more : (n : ℕ) → 1 + n ≡ suc n
one-more n = omega arith

-- After a part without the byte, the byte is the first one.
place_of-first : (byte : ℕ) (xs ys : List ℕ) → Lacks byte xs → place_of byte (xs ++ (byte ∷ ys)) ≡ length xs
unfolding place_of
place_of-first byte [] ys lacks =
    let here : (byte == byte) ≡ true = (Decides-eqb byte byte).1 refl in
    ap (λ b. cond (not b) (1 + prefix_len (λ y. not (y == byte)) ys) 0) here
place_of-first byte (x ∷ xs) ys lacks =
    let other : (x == byte) ≡ false = false_from_ne_true _ (λ e. lacks.0 ((Decides-eqb x byte).0 e)) in
    let more = place_of-first byte xs ys lacks.1 in
    ap (λ b. cond (not b) (1 + prefix_len (λ y. not (y == byte)) (xs ++ (byte ∷ ys))) 0) other ∙ ap (λ n. 1 + n) more ∙ one-more (length xs)

module _ (byte : ℕ) (text xs ys : List ℕ) (is : text ≡ xs ++ (byte ∷ ys)) (lacks : Lacks byte xs) where
  place-is : place_of byte text ≡ length xs
  place-is = ap (place_of byte) is ∙ place_of-first byte xs ys lacks

  pub before-is : before byte text ≡ xs
  before-is = ap (λ n. take n text) place-is ∙ ap (take (length xs)) is ∙ take-append_seam xs (byte ∷ ys)

  pub after-is : after byte text ≡ ys
  after-is = ap (λ n. drop (n + 1) text) place-is ∙ ap (drop (length xs + 1)) is ∙ drop-append-add xs (byte ∷ ys) 1

  pub occurs-is : Occurs byte text
  occurs-is =
      let place = place-is in
      let all = length-append xs (byte ∷ ys) in
      let size : length text ≡ length (xs ++ (byte ∷ ys)) = ap length is in
      omega (arith, place, all, size)

-- A text is the part before the first byte of a value, this byte, and the part after it.
pub parts : (byte : ℕ) (text : List ℕ) → Occurs byte text → text ≡ before byte text ++ (byte ∷ after byte text)
unfolding place_of
parts byte text occurs =
    let split = split_at_first (λ b. b == byte) text 0 occurs in
    let here : get_or text (place_of byte text) 0 ≡ byte = (Decides-eqb _ byte).0 (passes_at_first (λ b. b == byte) text 0 occurs) in
    split ∙ ap (λ n. before byte text ++ (n ∷ after byte text)) here

-- Names have no spaces and no bytes 0.
space-name : (kind : Kind) → Lacks 32 (kind_name kind)
unfolding kind_name
space-name Tree = search arith
space-name Blob = search arith
space-name Commit = search arith
space-name Tag = search arith

nul-name : (kind : Kind) → Lacks 0 (kind_name kind)
unfolding kind_name
nul-name Tree = search arith
nul-name Blob = search arith
nul-name Commit = search arith
nul-name Tag = search arith

nul-decimal : (n : ℕ) → n < 2 ^ 64 → Lacks 0 (decimal n)
nul-decimal n small =
    decimal_by_steps (λ m ds. Lacks 0 ds) (λ m h. (λ e. absurd (omega (arith, e)), tt))
    (λ m ds h p. lacks-append 0 ds _ p (λ e. absurd (omega (arith, e)), tt)) n small

nul-header : (kind : Kind) (n : ℕ) → n < 2 ^ 64 → Lacks 0 (kind_and_size kind n)
nul-header kind n small =
    lacks-append 0 (kind_name kind) (32 ∷ decimal n) (nul-name kind) (λ e. absurd (omega (arith, e)), nul-decimal n small)

-- Digits write the number that their decimal form stands for.
abbrev pub AreDigits : List ℕ → Type 0
AreDigits [] = Unit {0}
AreDigits (b ∷ bs) = (is_ascii_digit b ≡ true) × AreDigits bs

digit-is : (d : ℕ) → d < 10 → is_ascii_digit (48 + d) ≡ true
digit-is d h = search arith

digits-append : (xs ys : List ℕ) → AreDigits xs → AreDigits ys → AreDigits (xs ++ ys)
digits-append [] ys a b = b
digits-append (x ∷ xs) ys a b = (a.0, digits-append xs ys a.1 b)

number-append : (xs : List ℕ) (n d : ℕ) → AreDigits xs → d < 10 → number_after n (xs ++ ((48 + d) ∷ [])) ≡ number_after n xs * 10 + d
unfolding number_after
number-append [] n d are h = ap (λ t. cond t (n * 10 + (48 + d - 48)) n) (digit-is d h) ∙ omega arith
number-append (x ∷ xs) n d are h =
    ap (λ t. cond t (number_after (n * 10 + (x - 48)) (xs ++ ((48 + d) ∷ []))) n) are.0
    ∙ number-append xs (n * 10 + (x - 48)) d are.1 h
    ∙ ap (λ t. cond t (number_after (n * 10 + (x - 48)) xs) n * 10 + d) (sym are.0)

number-one : (n : ℕ) → n < 10 → number_of ((48 + n) ∷ []) ≡ n
unfolding number_after
number-one n h = number-append [] 0 n tt h ∙ omega arith

pub number-decimal : (n : ℕ) → n < 2 ^ 64 → number_of (decimal n) ≡ n
number-decimal n small =
    (decimal_by_steps (λ m ds. AreDigits ds × (number_of ds ≡ m)) (λ m h. ((digit-is m h, tt), number-one m h))
    (λ m ds h p. let last : m % 10 < 10 = omega arith in let whole = p.1 in let more = number-append ds 0 (m % 10) p.0 last in
    (digits-append ds _ p.0 (digit-is (m % 10) last, tt), more ∙ ap (λ q. q * 10 + m % 10) whole ∙ omega arith)) n small).1

-- A kind by the second letter of its name.
abbrev named : List ℕ → Kind
named name = cond (get_or name 1 0 == 114) Tree (cond (get_or name 1 0 == 108) Blob (cond (get_or name 1 0 == 111) Commit Tag))

named-back : (k : Kind) → named (kind_name k) ≡ k
unfolding kind_name
named-back Tree = refl
named-back Blob = refl
named-back Commit = refl
named-back Tag = refl

pub one-name : (k l : Kind) → kind_name k ≡ kind_name l → k ≡ l
one-name k l e = sym (named-back k) ∙ ap named e ∙ named-back l

-- A kind and a size are one kind and one size.
pub one-size : (text : List ℕ) (kind other : Kind) (n m : ℕ) → n < 2 ^ 64 → m < 2 ^ 64
    → text ≡ kind_and_size kind n → text ≡ kind_and_size other m → (kind ≡ other) × (n ≡ m)
one-size text kind other n m small small' a b = (
  one-name kind other (sym (before-is 32 text (kind_name kind) (decimal n) a (space-name kind)) ∙ before-is 32 text (kind_name other) (decimal m) b (space-name other)),
  sym (number-decimal n small)
      ∙ ap number_of (sym (after-is 32 text (kind_name kind) (decimal n) a (space-name kind)) ∙ after-is 32 text (kind_name other) (decimal m) b (space-name other))
      ∙ number-decimal m small',
)

pub one-header : (bytes rest end : List ℕ) (kind other : Kind) (size number : ℕ) → size < 2 ^ 64 → number < 2 ^ 64
    → HasHeader bytes kind size rest → HasHeader bytes other number end → (kind ≡ other) × (size ≡ number) × (rest ≡ end)
one-header bytes rest end kind other size number small small' a b =
    let first = before-is 0 bytes (kind_and_size kind size) rest a (nul-header kind size small) in
    let second = before-is 0 bytes (kind_and_size other number) end b (nul-header other number small') in
    let same = one-size (before 0 bytes) kind other size number small small' first second in (
      same.0,
      same.1,
      sym (after-is 0 bytes (kind_and_size kind size) rest a (nul-header kind size small)) ∙ after-is 0 bytes (kind_and_size other number) end b (nul-header other number small'),
    )

-- A stored content is shorter than the object.
pub shorter : (kind : Kind) (content : List ℕ) → length content ≤ length (stored kind content)
shorter kind content = let all = length-append (kind_and_size kind (length content)) (0 ∷ content) in omega (arith, all)

fits : (bytes : List ℕ) (kind : Kind) (content : List ℕ) → length bytes < 2 ^ 63 → IsLoose bytes kind content → length content < 2 ^ 64
fits bytes kind content small is =
    let less = shorter kind content in
    let size : length bytes ≡ length (stored kind content) = ap length is in
    omega (arith, less, size, small)

pub one-loose : (bytes : List ℕ) (kind other : Kind) (content more : List ℕ) → length bytes < 2 ^ 63 → IsLoose bytes kind content → IsLoose bytes other more → (kind ≡ other) × (content ≡ more)
one-loose bytes kind other content more small a b =
    let same = one-header bytes content more kind other (length content) (length more) (fits bytes kind content small a) (fits bytes other more small b) a b in
    (same.0, same.2)

-- What `size` refuses is no number as git writes it.
pub no-number : (text : List ℕ) → ¬ (number_of text < 2 ^ 64) → (n : ℕ) → n < 2 ^ 64 → text ≢ decimal n
no-number text great n small is =
    let same : number_of text ≡ n = ap number_of is ∙ number-decimal n small in
    great (omega (arith, same, small))

pub other-number : (text : List ℕ) → text ≢ decimal (number_of text) → (n : ℕ) → n < 2 ^ 64 → text ≢ decimal n
other-number text other n small is = other (is ∙ ap decimal (sym (ap number_of is ∙ number-decimal n small)))

-- What `kind_and_size` refuses is no kind and size.
pub no-space : (text : List ℕ) → (¬ Occurs 32 text) → (kind : Kind) (n : ℕ) → text ≢ kind_and_size kind n
no-space text none kind n is = none (occurs-is 32 text (kind_name kind) (decimal n) is (space-name kind))

pub other-name : (text : List ℕ) → ((kind : Kind) → kind_name kind ≢ before 32 text) → (kind : Kind) (n : ℕ) → text ≢ kind_and_size kind n
other-name text none kind n is = none kind (sym (before-is 32 text (kind_name kind) (decimal n) is (space-name kind)))

pub other-digits : (text : List ℕ) (n : ℕ) → after 32 text ≢ decimal n → (kind : Kind) → text ≢ kind_and_size kind n
other-digits text n none kind is = none (after-is 32 text (kind_name kind) (decimal n) is (space-name kind))

-- What `parse_header` refuses is no header.
pub no-header : (bytes : List ℕ) → (¬ Occurs 0 bytes) → (kind : Kind) (size : ℕ) (rest : List ℕ) → size < 2 ^ 64 → ¬ HasHeader bytes kind size rest
no-header bytes none kind size rest small is = none (occurs-is 0 bytes (kind_and_size kind size) rest is (nul-header kind size small))

pub other-header : (bytes : List ℕ) (kind : Kind) (size : ℕ) → before 0 bytes ≢ kind_and_size kind size → size < 2 ^ 64 → (rest : List ℕ) → ¬ HasHeader bytes kind size rest
other-header bytes kind size none small rest is = none (before-is 0 bytes (kind_and_size kind size) rest is (nul-header kind size small))

-- A header has 28 bytes at most.
name-short : (kind : Kind) → length (kind_name kind) ≤ 6
unfolding kind_name
name-short Tree = search arith
name-short Blob = search arith
name-short Commit = search arith
name-short Tag = search arith

pub header-short : (kind : Kind) (n : ℕ) → n < 2 ^ 64 → length (kind_and_size kind n) + 1 ≤ 28
header-short kind n small =
    let digits = length-decimal-le 20 n (omega arith) (omega arith) small in
    let name = name-short kind in
    let all = length-append (kind_name kind) (32 ∷ decimal n) in
    omega (arith, name, all, digits)

-- What is after a header.
pub after-header : (bytes : List ℕ) (kind : Kind) (size len : ℕ) (is : IsHeader bytes kind size len) → drop len bytes ≡ is.rest
after-header bytes kind size len is =
    ap (λ n. drop n bytes) is.ends ∙ ap (drop (length (kind_and_size kind size) + 1)) is.begins ∙ drop-append-add (kind_and_size kind size) (0 ∷ is.rest) 1

pub within-header : (bytes : List ℕ) (kind : Kind) (size len : ℕ) → IsHeader bytes kind size len → len ≤ length bytes
within-header bytes kind size len is =
    let all = length-append (kind_and_size kind size) (0 ∷ is.rest) in
    let bytes' : length bytes ≡ length (kind_and_size kind size ++ (0 ∷ is.rest)) = ap length is.begins in
    let end = is.ends in
    omega (arith, all, bytes', end)
