-- A row that is read alone says what the file says.
use Rattle.std.proofs.Common.{◌≡◌, ℕ, zero, suc, ◌+◌, ◌-◌, ◌*◌, ◌^◌, ◌<◌, ◌≤◌, Bool, true, false, List, [], ◌∷◌, length, map, take, drop, Some, cond, nat_eq, nat_lt, slice_index, refl, sym, ap, ◌∙◌, arith}
use Rattle.std.proofs.lemmas.Bool.{ltb-false}
use Rattle.std.proofs.lemmas.List.{get_or-take, get_or-drop}
use Rattle.std.specs.Int.{w32, from_be_bytes}
use Rattle.gix_base.specs.declared.hash.ObjectId.{ObjectId}
use Rattle.gix_ids.specs.TableBytes.{word}
use Rattle.gix_ids.specs.TableForm.{id_of}
use Rattle.gix_commitgraph.specs.FileCommits.{date_of, edge_word, edge_list, level_of, row_word}
use Rattle.gix_commitgraph.specs.declared.commit_graph.layout.Layout.{Layout}
use Rattle.gix_graph_rows.specs.RowLaws.{RowsSayTheSame}

byte : (s : List ℕ) (k j n : ℕ) → j < 36 → k + j ≡ n → slice_index (take 36 (drop k s)) j ≡ slice_index s n
byte s k j n h e = get_or-take 36 (drop k s) j 0 h ∙ get_or-drop k s j 0 ∙ ap (slice_index s) e

-- a number of a row is that of the file at the row's place
pub word-alone : (s : List ℕ) (k at : ℕ) → at + 4 ≤ 36 → word (take 36 (drop k s)) at ≡ word s (k + at)
unfolding word
word-alone s k at h =
    let a = byte s k at (k + at) (omega arith) refl in
    let b = byte s k (at + 1) (k + at + 1) (omega arith) (omega arith) in
    let c = byte s k (at + 2) (k + at + 2) (omega arith) (omega arith) in
    let d = byte s k (at + 3) (k + at + 3) (omega arith) (omega arith) in
    λ i. from_be_bytes w32 (a i ∷ b i ∷ c i ∷ d i ∷ [])

-- a list that begins inside EDGE has a number
listed : (s : List ℕ) (l : Layout) (k n : ℕ) (last : Bool) → nat_lt (edge_word s l k) (2 ^ 31) ≡ last → 0 < n → 1 ≤ length (edge_list s l k n)
listed s l k zero last e h = absurd (omega arith)
listed s l k (suc n) true e h = rw e (omega arith)
listed s l k (suc n) false e h = rw e (omega arith)

-- the number of parents by what the two numbers of a row are
shape : (f : ℕ → ObjectId) (a b : ℕ) (es : List ℕ) (none one two : Bool) → (two ≡ false → 1 ≤ length es)
    → cond none (length (map f (cond none [] (a ∷ cond one [] (cond two (b ∷ []) es)))) ≡ 0)
    (cond one (length (map f (cond none [] (a ∷ cond one [] (cond two (b ∷ []) es)))) ≡ 1)
    (cond two (length (map f (cond none [] (a ∷ cond one [] (cond two (b ∷ []) es)))) ≡ 2)
    (2 ≤ length (map f (cond none [] (a ∷ cond one [] (cond two (b ∷ []) es)))))))
shape f a b es true one two h = refl
shape f a b es false true two h = refl
shape f a b es false false true h = refl
shape f a b [] false false false h = absurd (let e = h refl in omega arith)
shape f a b (e ∷ es) false false false h = omega arith

pub row-says : RowsSayTheSame
row-says s l i sound here =
    let k = l.rows + 36 * i in
    let first = word-alone s k 20 (omega arith) in
    let second = word-alone s k 24 (omega arith) in
    let high = word-alone s k 28 (omega arith) in
    let low = word-alone s k 32 (omega arith) in
    let a = row_word s l i 20 in
    let b = row_word s l i 24 in
    let start = b - 2 ^ 31 in
    let es = edge_list s l start (l.edge_count - start) in
    let some : nat_lt b (2 ^ 31) ≡ false → 1 ≤ length es = λ e.
    let inside = (sound.parents i here).others (ltb-false b (2 ^ 31) e) in
    listed s l start (l.edge_count - start) (nat_lt (edge_word s l start) (2 ^ 31)) refl (omega arith) in
    record {
      date = λ j. date_of (sym high j) (sym low j);
      generation = ap (λ n. Some (level_of n)) (sym high);
      parents = rw (first, second) (shape (id_of s l.table) a b es (nat_eq a 0x7000_0000) (nat_eq b 0x7000_0000) (nat_lt b (2 ^ 31)) some);
    }
