-- Counting back step by step comes to what all counts come to.
use Rattle.std.proofs.Common.{◌≡◌, ◌∙◌, sym, ap, refl, ℕ, ◌+◌, ◌*◌, ◌^◌, ◌<◌, ◌≤◌, inl, inr, List, [], ◌∷◌, Bool, true, false, cond, codes, nat_lt, Option, Some, None, option_map, Result, Ok, Err, arith}
use Rattle.std.specs.Option.{option_and_then}
use Rattle.std.proofs.lemmas.Bool.{and_parts, and_from, ltb-true, lt-ltb, cases_lt}
use Rattle.std.proofs.lemmas.List.Sums.{sum_by-cons}
use Rattle.gix_date.specs.declared.date.error.DateError.{DateError}
use Rattle.gix_date.specs.declared.date.error.DateError.TheVariants.{OutOfRange}
use Rattle.gix_date.specs.declared.date.ago.Ago.{Ago}
use Rattle.gix_date.specs.DateWords.{words_of}
use Rattle.gix_date.specs.Numerals.{is_number, number_of}
use Rattle.gix_date.specs.Shape.{is_word}
use Rattle.gix_date.specs.Ago.{Count, unit_of, counts_of, months_in, seconds_in, total_of, ago_in, ago_of}
use Rattle.gix_date.specs.AgoSteps.{total, more, with_more, with_count, ago_from}
use Rattle.gix_date.proofs.Holds.{otherwise, where_true}

abbrev ago_at : (months seconds : ℕ) → Ago
ago_at months seconds = record { months = months; seconds = seconds }

abbrev count_at : (number : ℕ) (each : Ago) → Count
count_at number each = record { number = number; each = each }

-- totals that an `i64` holds, and others
total_of-within : (a b : ℕ) → a < 2 ^ 63 → b < 2 ^ 63 → total_of a b ≡ Ok (ago_at a b)
total_of-within a b h k = sym (where_true _ _ _ (and_from (nat_lt a (2 ^ 63)) (nat_lt b (2 ^ 63)) (lt-ltb a (2 ^ 63) h) (lt-ltb b (2 ^ 63) k)))

total_of-beyond : (a b : ℕ) → (a < 2 ^ 63 → b < 2 ^ 63 → ⊥) → total_of a b ≡ Err OutOfRange
total_of-beyond a b h =
    sym (otherwise _ _ _ (λ e. let p = and_parts (nat_lt a (2 ^ 63)) (nat_lt b (2 ^ 63)) e in h (ltb-true a (2 ^ 63) p.0) (ltb-true b (2 ^ 63) p.1)))

total-within : (n : ℕ) → n < 2 ^ 63 → total n ≡ Ok n
unfolding total
total-within n h = sym (where_true _ _ _ (lt-ltb n (2 ^ 63) h))

total-beyond : (n : ℕ) → 2 ^ 63 ≤ n → total n ≡ Err OutOfRange
unfolding total
total-beyond n h = sym (otherwise _ _ _ (λ e. let lt = ltb-true n (2 ^ 63) e in absurd (omega arith)))

-- so many more of a unit
more-total_of : (a b number : ℕ) (each : Ago) → more (ago_at a b) number each ≡ total_of (a + number * each.months) (b + number * each.seconds)
unfolding more
more-total_of a b number each =
    let m = a + number * each.months in
    let s = b + number * each.seconds in
    elim (cases_lt m (2 ^ 63)) [
      | inl h ↦ elim (cases_lt s (2 ^ 63)) [
        | inl k ↦ rw (total-within m h) (rw (total-within s k) (sym (total_of-within m s h k)))
        | inr k ↦ rw (total-within m h) (rw (total-beyond s k) (sym (total_of-beyond m s (λ _ lt. omega arith))))
      ]
      | inr h ↦ rw (total-beyond m h) (sym (total_of-beyond m s (λ lt _. omega arith)))
    ]

with_more-total_of : (a b number : ℕ) (each : Ago) → with_more (Some (total_of a b)) number each ≡ total_of (a + number * each.months) (b + number * each.seconds)
unfolding with_more
with_more-total_of a b number each =
    elim (cases_lt a (2 ^ 63)) [
      | inl h ↦ elim (cases_lt b (2 ^ 63)) [
        | inl k ↦ rw (total_of-within a b h k) (more-total_of a b number each)
        | inr k ↦ rw (total_of-beyond a b (λ _ lt. omega arith)) (sym (total_of-beyond (a + number * each.months) (b + number * each.seconds) (λ _ lt. omega arith)))
      ]
      | inr h ↦ rw (total_of-beyond a b (λ lt _. omega arith)) (sym (total_of-beyond (a + number * each.months) (b + number * each.seconds) (λ lt _. omega arith)))
    ]

with_more-none : (number : ℕ) (each : Ago) → with_more None number each ≡ total_of (0 + number * each.months) (0 + number * each.seconds)
unfolding with_more
with_more-none number each = more-total_of 0 0 number each

-- what counts come to after so many months and seconds
abbrev after : (months seconds : ℕ) → List Count → Result Ago DateError
after months seconds counts = total_of (months + months_in counts) (seconds + seconds_in counts)

after-cons : (a b number : ℕ) (each : Ago) (counts : List Count) → after (a + number * each.months) (b + number * each.seconds) counts ≡ after a b (count_at number each ∷ counts)
after-cons a b number each counts =
    let m = sum_by-cons (λ count. count.number * count.each.months) (count_at number each) counts in
    let s = sum_by-cons (λ count. count.number * count.each.seconds) (count_at number each) counts in
    let months : (a + number * each.months) + months_in counts ≡ a + months_in (count_at number each ∷ counts) = omega (arith, m) in
    let seconds : (b + number * each.seconds) + seconds_in counts ≡ b + seconds_in (count_at number each ∷ counts) = omega (arith, s) in
    ap (λ n. total_of n ((b + number * each.seconds) + seconds_in counts)) months ∙ ap (λ n. total_of (a + months_in (count_at number each ∷ counts)) n) seconds

after-counts : (a b number : ℕ) (each : Ago) (counts : Option (List Count)) → option_map (after (a + number * each.months) (b + number * each.seconds)) counts ≡ option_map (after a b) (option_map (λ counts. count_at number each ∷ counts) counts)
after-counts a b number each None = refl
after-counts a b number each (Some counts) = ap (λ r. Some r) (after-cons a b number each counts)

ago_in-counts : (number : ℕ) (each : Ago) (counts : Option (List Count)) → option_map (after (0 + number * each.months) (0 + number * each.seconds)) counts ≡ option_and_then ago_in (option_map (λ counts. count_at number each ∷ counts) counts)
ago_in-counts number each None = refl
ago_in-counts number each (Some counts) =
    let zero_is : (n : ℕ) → 0 + n ≡ n = λ n. omega arith in
    let all = count_at number each ∷ counts in
    ap (λ r. Some r) (after-cons 0 0 number each counts ∙ ap (λ n. total_of n (0 + seconds_in all)) (zero_is (months_in all)) ∙ ap (λ n. total_of (months_in all) n) (zero_is (seconds_in all)))

nothing_more : (a b : ℕ) → total_of a b ≡ after a b []
nothing_more a b =
    let more_is : (n : ℕ) → n ≡ n + 0 = λ n. omega arith in
    ap (λ n. total_of n b) (more_is a) ∙ ap (λ n. total_of (a + 0) n) (more_is b)

-- words read after a sum
ago_from-after : (words : List (List ℕ)) (a b : ℕ) → ago_from (Some (total_of a b)) words ≡ option_map (after a b) (counts_of words)
unfolding ago_from counts_of with_count
ago_from-after [] a b = refl
ago_from-after (word ∷ []) a b =
    let step : (v : Bool) → cond v (Some (total_of a b)) None ≡ option_map (after a b) (cond v (Some []) None)
    = λ v. elim v as (λ v. cond v (Some (total_of a b)) None ≡ option_map (after a b) (cond v (Some []) None)) [ true ↦ ap (λ r. Some r) (nothing_more a b) | false ↦ refl ] in
    step (is_word (codes "ago") word)
ago_from-after (number ∷ unit ∷ words) a b =
    let n = number_of number in
    let goes : (u : Option Ago) (v : Bool) → option_and_then (λ s. ago_from (Some s) words) (cond v (option_map (λ each. with_more (Some (total_of a b)) n each) u) None) ≡ option_map (after a b) (cond v (option_and_then (λ each. option_map (λ counts. count_at n each ∷ counts) (counts_of words)) u) None)
    = λ u v. elim v as (λ v. option_and_then (λ s. ago_from (Some s) words) (cond v (option_map (λ each. with_more (Some (total_of a b)) n each) u) None) ≡ option_map (after a b) (cond v (option_and_then (λ each. option_map (λ counts. count_at n each ∷ counts) (counts_of words)) u) None)) [
      | true ↦ elim u as (λ u. option_and_then (λ s. ago_from (Some s) words) (option_map (λ each. with_more (Some (total_of a b)) n each) u) ≡ option_map (after a b) (option_and_then (λ each. option_map (λ counts. count_at n each ∷ counts) (counts_of words)) u)) [
        | None ↦ refl
        | Some each ↦ ap (λ s. ago_from (Some s) words) (with_more-total_of a b n each) ∙ ago_from-after words (a + n * each.months) (b + n * each.seconds) ∙ after-counts a b n each (counts_of words)
      ]
      | false ↦ refl
    ] in
    goes (unit_of unit) (is_number number)

ago_from-none : (words : List (List ℕ)) → ago_from None words ≡ option_and_then ago_in (counts_of words)
unfolding ago_from counts_of with_count
ago_from-none [] = refl
ago_from-none (word ∷ []) =
    let step : (v : Bool) → cond v None None ≡ option_and_then ago_in (cond v (Some []) None)
    = λ v. elim v as (λ v. cond v None None ≡ option_and_then ago_in (cond v (Some []) None)) [ true ↦ refl | false ↦ refl ] in
    step (is_word (codes "ago") word)
ago_from-none (number ∷ unit ∷ words) =
    let n = number_of number in
    let goes : (u : Option Ago) (v : Bool) → option_and_then (λ s. ago_from (Some s) words) (cond v (option_map (λ each. with_more None n each) u) None) ≡ option_and_then ago_in (cond v (option_and_then (λ each. option_map (λ counts. count_at n each ∷ counts) (counts_of words)) u) None)
    = λ u v. elim v as (λ v. option_and_then (λ s. ago_from (Some s) words) (cond v (option_map (λ each. with_more None n each) u) None) ≡ option_and_then ago_in (cond v (option_and_then (λ each. option_map (λ counts. count_at n each ∷ counts) (counts_of words)) u) None)) [
      | true ↦ elim u as (λ u. option_and_then (λ s. ago_from (Some s) words) (option_map (λ each. with_more None n each) u) ≡ option_and_then ago_in (option_and_then (λ each. option_map (λ counts. count_at n each ∷ counts) (counts_of words)) u)) [
        | None ↦ refl
        | Some each ↦ ap (λ s. ago_from (Some s) words) (with_more-none n each) ∙ ago_from-after words (0 + n * each.months) (0 + n * each.seconds) ∙ ago_in-counts n each (counts_of words)
      ]
      | false ↦ refl
    ] in
    goes (unit_of unit) (is_number number)

-- a whole text
pub ago_from-ago_of : (text : List ℕ) → ago_from None (words_of text) ≡ ago_of text
ago_from-ago_of text = ago_from-none (words_of text)
