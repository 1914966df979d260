-- Words and what parts them.
use Rattle.std.proofs.Common.{◌≡◌, ◌∙◌, Bool, true, false, ℕ, suc, ◌+◌, ◌-◌, ◌≤◌, ◌<◌, List, [], ◌∷◌, length, take, drop, refl, arith, Option, Some, None, Result}
use Rattle.std.proofs.Math.Seq.{take-length}
use Rattle.gix_date.specs.AgoSteps.{with_count, ago_from}
use Rattle.gix_date.specs.DateWords.{is_gap, word_length, words_from, words_of}
use Rattle.gix_date.specs.declared.date.ago.Ago.{Ago}
use Rattle.gix_date.specs.declared.date.error.DateError.{DateError}

-- the words behind a word, from the byte on that parts them
unfoldable pub words_behind : List ℕ → List (List ℕ)
words_behind [] = []
words_behind (gap ∷ rest) = words_from true rest

-- the first word and those behind it
pub words_of-first : (text : List ℕ) → words_of text ≡ take (word_length text) text ∷ words_behind (drop (word_length text) text)
unfolding words_from words_behind
words_of-first [] = refl
words_of-first (b ∷ bs) =
    let n = word_length bs in
    let one : 1 + n ≡ suc n = omega arith in
    let more = words_of-first bs in
    let step : (v : Bool) → is_gap b ≡ v → words_of (b ∷ bs) ≡ take (word_length (b ∷ bs)) (b ∷ bs) ∷ words_behind (drop (word_length (b ∷ bs)) (b ∷ bs))
    = λ v. elim v as (λ v. is_gap b ≡ v → words_of (b ∷ bs) ≡ take (word_length (b ∷ bs)) (b ∷ bs) ∷ words_behind (drop (word_length (b ∷ bs)) (b ∷ bs))) [
      | true ↦ λ e. rw e refl
      | false ↦ λ e. rw (e, one, more) refl
    ] in
    step (is_gap b) refl

-- a word with nothing behind it
pub words_of-ended : (text : List ℕ) (n : ℕ) (word rest : List ℕ) → n ≡ word_length text → word ≡ take n text → rest ≡ drop n text → length rest < 1 → words_of text ≡ word ∷ []
unfolding words_behind
words_of-ended text n word [] is front back short =
    words_of-first text ∙ rw (← is, ← front, ← back) refl
words_of-ended text n word (b ∷ bs) is front back short = absurd (omega arith)

-- a word with a gap behind it, and what is left behind the gap
pub words_of-parted : (text : List ℕ) (n : ℕ) (word rest left : List ℕ) → n ≡ word_length text → word ≡ take n text → rest ≡ drop n text → 1 ≤ length rest → words_of left ≡ words_from true (take (length rest - 1) (drop 1 rest)) → words_of text ≡ word ∷ words_of left
unfolding words_behind
words_of-parted text n word [] left is front back long behind = absurd (omega arith)
words_of-parted text n word (b ∷ bs) left is front back long behind =
    let short : length (b ∷ bs) - 1 ≡ length bs = omega arith in
    let whole = rw (short, take-length bs) at behind in
    words_of-first text ∙ rw (← is, ← front, ← back, whole) refl

-- what is read past a pair
pub ago_from-count : (sum : Option (Result Ago DateError)) (rest after word unit : List ℕ) (left : List (List ℕ)) (s : Result Ago DateError) → words_of rest ≡ word ∷ words_of after → words_of after ≡ unit ∷ left → Some s ≡ with_count sum word unit → ago_from (Some s) left ≡ ago_from sum (words_of rest)
unfolding ago_from
ago_from-count sum rest after word unit left s first second pair = rw (first, second, ← pair) refl

pub ago_from-none : (sum : Option (Result Ago DateError)) → None ≡ ago_from sum []
unfolding ago_from
ago_from-none sum = refl
