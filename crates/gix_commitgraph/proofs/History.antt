-- The history of a file.
use Rattle.std.specs.Prelude.{MatchOption}
use Rattle.std.proofs.Common.{◌≡◌, ℕ, ◌<◌, ◌≤◌, List, length, map, slice_get, Option, Some, None, is_some, sym, ap, ◌∙◌, subst}
use Rattle.std.specs.Option.{option_map}
use Rattle.std.specs.List.Sorted.{IsStrictlySortedBy}
use Rattle.gix_base.specs.declared.hash.ObjectId.{ObjectId}
use Rattle.gix_revwalk.specs.History.{Entry, History, entry_at}
use Rattle.gix_ids.specs.TableForm.{compare_ids, id_of, IsSorted}
use Rattle.gix_ids.specs.TableIds.{rows_in, IsFirstFrom}
use Rattle.gix_ids.specs.TableLookup.{IsAt, IsAbsent, IsGap}
use Rattle.gix_ids.proofs.Rows.{rows-has, rows-lacks, rows-contains, rows-length, rows-id, rows-past, rows-rise, first-at, first-gap}
use Rattle.gix_commitgraph.specs.FileChunks.{layout_of}
use Rattle.gix_commitgraph.specs.FileCommits.{entry_of_row, history_in}
use Rattle.gix_commitgraph.specs.FileIds.{ids_in}
use Rattle.gix_commitgraph.specs.declared.commit_graph.layout.Layout.{Layout}

module _ (s : List ℕ) (l : Layout) (laid : l ≡ layout_of s) where
  -- the commits by the layout that was found
  pub history-is : rows_in s l.table (entry_of_row s l) ≡ history_in s
  unfolding history_in
  history-is = ap (λ (m : Layout). rows_in s m.table (entry_of_row s m)) laid

  pub history-length : length (history_in s) ≡ l.table.count
  history-length = sym (ap length history-is) ∙ rows-length s l.table (entry_of_row s l)

  pub history-id : (k : ℕ) → k < l.table.count → option_map (λ e. e.0) (slice_get (history_in s) k) ≡ Some (id_of s l.table k)
  history-id k h = sym (ap (λ (o : History). option_map (λ e. e.0) (slice_get o k)) history-is) ∙ rows-id s l.table (entry_of_row s l) k h

  pub history-past : (k : ℕ) → l.table.count ≤ k → slice_get (history_in s) k ≡ None
  history-past k h = sym (ap (λ (o : History). slice_get o k) history-is) ∙ rows-past s l.table (entry_of_row s l) k h

  pub history-lacks : (id : ObjectId) → IsAbsent s l.table id → entry_at (history_in s) id ≡ None
  history-lacks id nowhere = sym (ap (λ (o : History). entry_at o id) history-is) ∙ rows-lacks s l.table (entry_of_row s l) id nowhere

  module _ (sorted : IsSorted s l.table) where
    pub history-has : (id : ObjectId) (k : ℕ) → IsAt s l.table id k → entry_at (history_in s) id ≡ Some (entry_of_row s l k)
    history-has id k is = sym (ap (λ (o : History). entry_at o id) history-is) ∙ rows-has s l.table (entry_of_row s l) sorted id k is

    -- an id is found exactly if the history has it
    pub history-contains : (id : ObjectId) (o : Option ℕ) → MatchOption o (IsAbsent s l.table id) (IsAt s l.table id) → is_some o ≡ is_some (entry_at (history_in s) id)
    history-contains id o is = rows-contains s l.table (entry_of_row s l) sorted id o is ∙ ap (λ (h : History). is_some (entry_at h id)) history-is

    pub ids-rise : IsStrictlySortedBy compare_ids (ids_in s)
    ids-rise =
        let P : History → Type 0 = λ h. IsStrictlySortedBy compare_ids (map (λ (e : ObjectId × Entry). e.0) h) in
        subst P history-is (rows-rise s l.table (entry_of_row s l) sorted)

    pub ids-first-at : (id : ObjectId) (k : ℕ) → IsAt s l.table id k → IsFirstFrom (ids_in s) id k
    ids-first-at id k at =
        let P : History → Type 0 = λ h. IsFirstFrom (map (λ (e : ObjectId × Entry). e.0) h) id k in
        subst P history-is (first-at s l.table (entry_of_row s l) sorted id k at)

    pub ids-first-gap : (id : ObjectId) (k : ℕ) → IsGap s l.table id k → IsFirstFrom (ids_in s) id k
    ids-first-gap id k gap =
        let P : History → Type 0 = λ h. IsFirstFrom (map (λ (e : ObjectId × Entry). e.0) h) id k in
        subst P history-is (first-gap s l.table (entry_of_row s l) sorted id k gap)
