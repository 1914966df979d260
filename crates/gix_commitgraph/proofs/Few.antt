-- How many parents the commits of a file have.
use Rattle.std.proofs.Common.{◌≡◌, ℕ, zero, suc, ◌+◌, ◌-◌, ◌*◌, ◌^◌, ◌<◌, ◌≤◌, inl, inr, List, [], ◌∷◌, length, map, cond, true, false, nat_eq, nat_lt, refl, sym, ap, subst, arith}
use Rattle.std.proofs.lemmas.Bool.{cases_lt}
use Rattle.std.proofs.lemmas.Bool.Decides.{nat_tests}
use Rattle.std.proofs.lemmas.List.{length-map}
use Rattle.std.proofs.lemmas.List.Sums.{sum_by-cons}
use Rattle.gix_base.specs.declared.hash.ObjectId.{ObjectId}
use Rattle.gix_revwalk.specs.History.{Entry}
use Rattle.gix_ids.specs.TableForm.{id_of}
use Rattle.gix_ids.specs.TableIds.{rows_from, rows_in}
use Rattle.gix_commitgraph.specs.FileChunks.{layout_of}
use Rattle.gix_commitgraph.specs.FileCommits.{row_word, edge_word, edge_list, others, parents_at, entry_of_row, history_in}
use Rattle.gix_commitgraph.specs.FileChecks.{HasList, list_start, list_end, IsSound}
use Rattle.gix_commitgraph.specs.FileParents.{parent_count}
use Rattle.gix_commitgraph.specs.declared.commit_graph.layout.Layout.{Layout}
use Rattle.gix_commitgraph.proofs.History.{history-length}

module _ (s : List ℕ) (l : Layout) where
  length-edge_list : (k n : ℕ) → length (edge_list s l k n) ≤ n
  length-edge_list k zero = omega arith
  length-edge_list k (suc n) =
      let more = length-edge_list (k + 1) n in
      elim (nat_lt (edge_word s l k) (2 ^ 31)) as (λ b. length (cond b (edge_word s l k ∷ edge_list s l (k + 1) n) ((edge_word s l k - 2 ^ 31) ∷ [])) ≤ suc n) [
        | true ↦ omega arith
        | false ↦ omega arith
      ]

  module _ (i : ℕ) where
    -- the parents besides the first are those of the list
    others-listed : HasList s l i → others s l (row_word s l i 24) ≡ edge_list s l (list_start s l i) (l.edge_count - list_start s l i)
    others-listed has =
        let e : nat_eq (row_word s l i 24) 0x7000_0000 ≡ false = grind (arith, nat_tests) in
        let t : nat_lt (row_word s l i 24) (2 ^ 31) ≡ false = grind (arith, nat_tests) in
        rw (e, t) refl

    -- or at most one
    length-others : row_word s l i 24 < 2 ^ 31 → length (others s l (row_word s l i 24)) ≤ 1
    length-others low =
        let t : nat_lt (row_word s l i 24) (2 ^ 31) ≡ true = grind (arith, nat_tests) in
        rw t (elim (nat_eq (row_word s l i 24) 0x7000_0000) as (λ b. length (cond b [] (row_word s l i 24 ∷ [])) ≤ 1) [
          | true ↦ omega arith
          | false ↦ omega arith
        ])

    length-parents : length (map (id_of s l.table) (parents_at s l i)) ≤ 1 + length (others s l (row_word s l i 24))
    length-parents =
        rw length-map (elim (nat_eq (row_word s l i 20) 0x7000_0000) as (λ b. length (cond b [] (row_word s l i 20 ∷ others s l (row_word s l i 24))) ≤ 1 + length (others s l (row_word s l i 24))) [
          | true ↦ omega arith
          | false ↦ omega arith
        ])

  module _ (sound : IsSound s l) where
    -- the lists of n commits from position i on, none of which begins before f, fit behind f
    few-from : (i n f : ℕ) → i + n ≤ l.table.count → f ≤ l.edge_count → ((j : ℕ) → i ≤ j → j < l.table.count → HasList s l j → f ≤ list_start s l j)
        → parent_count (rows_from s l.table (entry_of_row s l) i n) + f ≤ 2 * n + l.edge_count
    few-from i zero f h fits behind = omega arith
    few-from i (suc n) f h fits behind =
        let one = length-parents i in
        let both = sum_by-cons (λ (e : ObjectId × Entry). length e.1.parents) (id_of s l.table i, entry_of_row s l i) (rows_from s l.table (entry_of_row s l) (i + 1) n) in
        elim (cases_lt (row_word s l i 24) (2 ^ 31)) [
          | inl low ↦
              let few = length-others i low in
              let rest = few-from (i + 1) n f (omega arith) fits (λ j a b has. behind j (omega arith) b has) in
              omega arith
          | inr has ↦
              let same = ap length (others-listed i has) in
              let from = behind i (omega arith) (omega arith) has in
              let inside = (sound.parents i (omega arith)).others has in
              let ends = length-edge_list (list_start s l i) (l.edge_count - list_start s l i) in
              let rest = few-from (i + 1) n (list_end s l i) (omega arith) (omega arith) (λ j a b next. sound.lists i j (omega arith) b has next) in
              omega arith
        ]

module _ (s : List ℕ) (l : Layout) (laid : l ≡ layout_of s) (sound : IsSound s l) where
  few : parent_count (history_in s) ≤ 2 * l.table.count + l.edge_count
  unfolding history_in
  few =
      let P : Layout → Type 0 = λ m. parent_count (rows_in s m.table (entry_of_row s m)) ≤ 2 * l.table.count + l.edge_count in
      let all = few-from s l sound 0 l.table.count 0 (omega arith) (omega arith) (λ j a b has. omega arith) in
      subst P laid (omega arith)

  pub few-parents : parent_count (history_in s) ≤ 2 * length (history_in s) + (layout_of s).edge_count
  few-parents =
      let P : ℕ → Type 0 = λ n. parent_count (history_in s) ≤ 2 * n + (layout_of s).edge_count in
      let Q : Layout → Type 0 = λ m. parent_count (history_in s) ≤ 2 * l.table.count + m.edge_count in
      subst P (sym (history-length s l laid)) (subst Q laid few)

  pub few-bytes : 3 * parent_count (history_in s) ≤ length s
  few-bytes =
      let all = few in
      let rows = sound.fits.rows in
      let edges = sound.fits.edges in
      omega arith
