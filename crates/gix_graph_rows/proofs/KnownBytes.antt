-- Bytes that are those of a file.
use Rattle.std.proofs.Common.{◌≡◌, ℕ, ◌+◌, ◌*◌, ◌/◌, ◌%◌, List, [], ◌∷◌, length, take, drop, slice_index, ◌<◌, refl, sym, ap, ◌∙◌, arith}
use Rattle.std.proofs.lemmas.List.{get_or-take, get_or-drop}
use Rattle.gix_base.specs.declared.hash.ObjectId.{ObjectId}
use Rattle.std.specs.Int.{w32, from_be_bytes}
use Rattle.gix_ids.specs.TableBytes.{id_from, word}
use Rattle.gix_ids.specs.TableLookup.{IsAt}
use Rattle.gix_ids.specs.declared.table.Table.{Table}
use Rattle.gix_pack.specs.PartForm.{part_of}
use Rattle.gix_files.specs.Known.{IsPart}
use Rattle.gix_files.proofs.Parts.{piece}
use Rattle.gix_graph_rows.specs.Kept.{AreIds}

-- the place of a byte in the windows
pub part_at : (s xs : List ℕ) (at n : ℕ) → n ≡ at / 4096 / 16 → IsPart s ((16 * n + at / 4096 % 16) * 4096 + at % 4096) xs → IsPart s at xs
part_at s xs at n e p =
    let same : (16 * n + at / 4096 % 16) * 4096 + at % 4096 ≡ at = omega arith in
    ap (λ k. take (length xs) (drop k s)) (sym same) ∙ p

abbrev the_id : List ℕ → ObjectId
the_id xs = record { 0 = xs }

-- the id in 20 bytes of a file
pub id_whole : (s xs : List ℕ) (at : ℕ) → length xs ≡ 20 → IsPart s at xs → the_id xs ≡ id_from s at
unfolding id_from
id_whole s xs at e p = λ i. record { 0 = (sym p ∙ ap (λ k. take k (drop at s)) e) i }

byte4 : (s : List ℕ) (k j n : ℕ) → j < 4 → k + j ≡ n → slice_index (take 4 (drop k s)) j ≡ slice_index s n
byte4 s k j n h e = get_or-take 4 (drop k s) j 0 h ∙ get_or-drop k s j 0 ∙ ap (slice_index s) e

four : (xs : List ℕ) → length xs ≡ 4 → from_be_bytes w32 xs ≡ word xs 0
unfolding word
four (a ∷ b ∷ c ∷ d ∷ []) e = refl
four [] e = absurd (omega (arith, e))
four (a ∷ []) e = absurd (omega (arith, e))
four (a ∷ b ∷ []) e = absurd (omega (arith, e))
four (a ∷ b ∷ c ∷ []) e = absurd (omega (arith, e))
four (a ∷ b ∷ c ∷ d ∷ f ∷ xs) e = absurd (omega (arith, e))

pub word4 : (s : List ℕ) (at : ℕ) → word (take 4 (drop at s)) 0 ≡ word s at
unfolding word
word4 s at =
    let a = byte4 s at 0 at (omega arith) (omega arith) in
    let b = byte4 s at 1 (at + 1) (omega arith) refl in
    let c = byte4 s at 2 (at + 2) (omega arith) refl in
    let d = byte4 s at 3 (at + 3) (omega arith) refl in
    λ i. from_be_bytes w32 (a i ∷ b i ∷ c i ∷ d i ∷ [])

-- the number in 4 bytes of a file
pub word_whole : (s xs : List ℕ) (at : ℕ) → length xs ≡ 4 → IsPart s at xs → from_be_bytes w32 xs ≡ word s at
word_whole s xs at e p = four xs e ∙ ap (λ l. word l 0) (sym p ∙ ap (λ k. take k (drop at s)) e) ∙ word4 s at

-- no ids
pub ids_none : (s : List ℕ) (t : Table) (xs : List ℕ) → xs ≡ [] → AreIds s t 0 xs
ids_none s t xs e = rw e (record { part = refl; within = omega arith })

-- the place of an id among some of the file
pub id_among : (s : List ℕ) (t : Table) (low k n : ℕ) (xs : List ℕ) (id : ObjectId) → AreIds s t low xs → IsAt xs (part_of xs) id k
    → (low + k < t.count → n ≡ low + k) → IsAt s t id n
unfolding id_from
id_among s t low k n xs id ids at sum =
    let below : k < length xs / 20 = at.below in
    let e : take 20 (drop (t.ids + 20 * low + 20 * k) s) ≡ take 20 (drop (20 * k) xs) = piece s xs (t.ids + 20 * low) (20 * k) 20 (omega arith) ids.part in
    let within : low + k < t.count = omega (arith, ids.within) in
    let there : n ≡ low + k = sum within in
    let same : t.ids + 20 * n ≡ t.ids + 20 * low + 20 * k = omega (arith, there) in
    let none : 20 * k ≡ 0 + 20 * k = omega arith in
    record {
      below = omega (arith, there, within);
      same = ap (λ a. the_id (take 20 (drop a s))) same ∙ ap the_id e ∙ ap (λ a. the_id (take 20 (drop a xs))) none ∙ at.same;
    }
