-- A file that is not above others is a file over none.
use Rattle.std.proofs.Common.{◌≡◌, ℕ, ◌-◌, List, [], ◌∷◌, map, refl, ap, ◌∙◌, arith}
use Rattle.gix_base.specs.declared.hash.ObjectId.{ObjectId}
use Rattle.gix_ids.specs.TableForm.{id_of}
use Rattle.gix_commitgraph.specs.FileCommits.{entry_of_row, parents_at}
use Rattle.gix_commitgraph.specs.ChainCommits.{entry_in, id_in}
use Rattle.gix_commitgraph.specs.declared.commit_graph.layout.Layout.{Layout}

module _ (s : List ℕ) (l : Layout) where
  ids-alone : (ps : List ℕ) → map (id_in [] s l) ps ≡ map (id_of s l.table) ps
  ids-alone [] = refl
  ids-alone (p ∷ ps) =
      ap (λ q. id_of s l.table q ∷ map (id_in [] s l) ps) (let e : p - 0 ≡ p = omega arith in e)
      ∙ ap (λ (xs : List ObjectId). id_of s l.table p ∷ xs) (ids-alone ps)

  pub entry-alone : (i : ℕ) → entry_in [] s l i ≡ entry_of_row s l i
  entry-alone i = ap (λ (xs : List ObjectId). record { parents = xs; time = (entry_of_row s l i).time; generation = (entry_of_row s l i).generation }) (ids-alone (parents_at s l i))
