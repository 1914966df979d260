-- A layer that is replaced by one of the same file.
use Rattle.std.proofs.Common.{◌≡◌, ◌<◌, ℕ, zero, suc, ◌+◌, ◌*◌, List, [], ◌∷◌, ◌++◌, take, drop, length, map, slice_index_or, slice_set, ◌-◌, Option, Some, IfSome, sum_by, refl, subst, sym, ap, ◌∙◌, arith}
use Rattle.std.proofs.lemmas.List.Sums.{sum_by-cons}
use Rattle.std.proofs.lemmas.Bool.{lt-ltb, le-ltb}
use Rattle.std.proofs.lemmas.List.{take_at}
use Rattle.gix_revwalk.specs.History.{Entry}
use Rattle.gix_graph_rows.specs.declared.hints.Hint.{Hint}
use Rattle.gix_base.specs.declared.hash.ObjectId.{ObjectId}
use Rattle.gix_ids.specs.TableBytes.{word}
use Rattle.gix_commitgraph.specs.FileCommits.{edge_word}
use Rattle.gix_commitgraph.specs.declared.position.Place.{Place}
use Rattle.gix_commitgraph.specs.PlaceForm.{IsPlace}
use Rattle.gix_files.specs.declared.Opened.{Ghosts}
use Rattle.gix_graph_rows.specs.ChainRows.{Said, file_at, id_there, entry_there, ids_of, layout_from, IsPlaceOf, IsRow, AreHints, said_in}
use Rattle.gix_ids.specs.TableLookup.{IsAt}
use Rattle.gix_graph_rows.specs.FilesRead.{said_by, files_of, contents_of}
use Rattle.gix_graph_rows.specs.declared.layer.Layer.{Layer}

pub map_set_same : {X Y : Type 0} (f : X → Y) (xs : List X) (k : ℕ) (d x : X) → k < length xs → f x ≡ f (slice_index_or xs k d) → map f (slice_set xs k x) ≡ map f xs
map_set_same f [] k d x h e = refl
map_set_same f (y ∷ xs) zero d x h e = ap (λ z. z ∷ map f xs) e
map_set_same f (y ∷ xs) (suc k) d x h e = ap (λ z. f y ∷ z) (map_set_same f xs k d x (omega arith) e)

index_map : {X Y : Type 0} (f : X → Y) (xs : List X) (k : ℕ) (d : X) (e : Y) → k < length xs → slice_index_or (map f xs) k e ≡ f (slice_index_or xs k d)
index_map f [] k d e h = absurd (omega arith)
index_map f (x ∷ xs) zero d e h = refl
index_map f (x ∷ xs) (suc k) d e h = index_map f xs k d e (omega arith)

-- the file and the row at a position, in a list of anything that is a file
placed_in : {X : Type 0} (said : X → Said) (count : X → ℕ) → ((x : X) → (said x).layout.table.count ≡ count x)
    → (xs : List X) (p l r : ℕ) (d : X) → IsPlace count xs p l r
    → IsAt (said (slice_index_or xs l d)).bytes (said (slice_index_or xs l d)).layout.table (id_there (map said xs) p) r
placed_in said count c [] p l r d h = let e = h.there in absurd cc
placed_in said count c (x ∷ xs) p zero r d h =
    let e = h.there in
    let same : x ≡ h.file = cc in
    let small : r < count x = rw same h.row in
    let sum : 0 + r ≡ p = h.same in
    let at : p ≡ r = omega (arith, sum) in
    let below : r < (said x).layout.table.count = rw (c x) small in
    record { below = below; same = rw (at, lt-ltb r (said x).layout.table.count below) refl }
placed_in said count c (x ∷ xs) p (suc l) r d h =
    let n = count x in
    let raw : (n + sum_by count (take l xs)) + r ≡ p = ap (λ k. k + r) (sym (sum_by-cons count x (take l xs))) ∙ h.same in
    let sum : n + (sum_by count (take l xs) + r) ≡ p = omega (arith, raw) in
    let next = placed_in said count c xs (p - n) l r d (record { file = h.file; there = h.there; row = h.row; same = omega (arith, sum) }) in
    rw (c x, le-ltb p n (omega (arith, sum))) next

module _ {O A : Type 0} {G : Ghosts O} where
  pub files_of_set : (xs : List (Layer O A G)) (k : ℕ) (d y : Layer O A G) → k < length xs
      → y.source ≡ (slice_index_or xs k d).source → y.layout ≡ (slice_index_or xs k d).layout
      → files_of (slice_set xs k y) ≡ files_of xs
  files_of_set xs k d y h e f = map_set_same said_by xs k d y h (λ i. record { bytes = G.content (e i).file; layout = layout_from (f i) })

  pub file_of : (xs : List (Layer O A G)) (k : ℕ) (d : Layer O A G) → k < length xs → file_at (files_of xs) k ≡ said_by (slice_index_or xs k d)
  file_of xs k d h = index_map said_by xs k d _ h

  -- the row of a file, which is that of the chain
  pub found_in : (xs : List (Layer O A G)) (p : Place) (d : Layer O A G) (id : ObjectId) → p.layer < length xs
      → IsAt (G.content (slice_index_or xs p.layer d).source.file) (ids_of (slice_index_or xs p.layer d).layout) id p.row → IsPlaceOf (files_of xs) id p
  found_in xs p d id h at = record { there = rw (file_of xs p.layer d h) at }

  -- the file and the row at a position
  pub placed : (xs : List (Layer O A G)) (p l r : ℕ) (d : Layer O A G) → IsPlace (λ z. z.layout.count) xs p l r
      → IsAt (G.content (slice_index_or xs l d).source.file) (ids_of (slice_index_or xs l d).layout) (id_there (files_of xs) p) r
  placed xs p l r d h = placed_in said_by (λ z. z.layout.count) (λ z. refl) xs p l r d h

  -- a number of EDGE that was read
  pub edge_read : (xs : List (Layer O A G)) (fs : List Said) (k : ℕ) (d : Layer O A G) → k < length xs → files_of xs ≡ fs → (w place : ℕ)
      → w ≡ word (G.content (slice_index_or xs k d).source.file) ((slice_index_or xs k d).layout.edges.start + 4 * place)
      → w ≡ edge_word (file_at fs k).bytes (file_at fs k).layout place
  edge_read xs fs k d h same w place e = rw (sym same, file_of xs k d h) e

  pub edge_within : (xs : List (Layer O A G)) (fs : List Said) (k : ℕ) (d : Layer O A G) → k < length xs → files_of xs ≡ fs → (place : ℕ)
      → 4 * place < (slice_index_or xs k d).layout.edges.len → place < (file_at fs k).layout.edge_count
  edge_within xs fs k d h same place e =
      let words = (slice_index_or xs k d).layout.words in
      rw (sym same, file_of xs k d h) (omega arith)

  -- a row that was read
  pub row_read : (xs : List (Layer O A G)) (k : ℕ) (d : Layer O A G) → k < length xs → (r : ℕ) (row : List ℕ)
      → (r < (slice_index_or xs k d).layout.count → row ≡ take 36 (drop ((slice_index_or xs k d).layout.rows + 36 * r) (G.content (slice_index_or xs k d).source.file)))
      → r < (file_at (files_of xs) k).layout.table.count → row ≡ take 36 (drop ((file_at (files_of xs) k).layout.rows + 36 * r) (file_at (files_of xs) k).bytes)
  row_read xs k d h r row e = rw (file_of xs k d h) e

  -- the files as their contents say
  pub files_are : G.keeps → (xs : List (Layer O A G)) → files_of xs ≡ map said_in (contents_of xs)
  files_are k [] = refl
  files_are k (x ∷ xs) =
      let here = x.laid_out k in
      let rest = files_are k xs in
      λ i. record { bytes = G.content x.source.file; layout = here i } ∷ rest i

  contents_are : (xs : List (Layer O A G)) → contents_of xs ≡ map (λ f. f.bytes) (files_of xs)
  contents_are [] = refl
  contents_are (x ∷ xs) = ap (λ z. G.content x.source.file ∷ z) (contents_are xs)

  pub contents_same : (xs ys : List (Layer O A G)) → files_of xs ≡ files_of ys → contents_of xs ≡ contents_of ys
  contents_same xs ys e = contents_are xs ∙ ap (map (λ f. f.bytes)) e ∙ sym (contents_are ys)

pub refilled : {X : Type 0} (n : ℕ) (xs ws : List X) → length xs ≡ n → length ws ≡ length xs → take n (ws ++ drop (length ws) xs) ≡ ws
refilled n xs ws e h = take_at ws (drop (length ws) xs) n (h ∙ e)

pub hints_on : (fs gs : List Said) (hs : List Hint) → fs ≡ gs → AreHints gs hs → AreHints fs hs
hints_on fs gs hs e h = rw e h

pub commit_on : (fs gs : List Said) (p : Place) (id : ObjectId) (e : Entry) → fs ≡ gs → IsPlaceOf gs id p
    → (p.row < (file_at fs p.layer).layout.table.count → e ≡ entry_there fs (file_at fs p.layer) p.row) → IsRow gs id e
commit_on fs gs p id e same at says =
    let here : IsPlaceOf fs id p = rw same at in
    rw (sym same) (record { place = p; found = here; says = says here.there.below })

pub at_on : (fs gs : List Said) (o : Option Place) (p : Place) (id : ObjectId) → fs ≡ gs → o ≡ Some p → IfSome o (IsPlaceOf fs id) → IsPlaceOf gs id p
at_on fs gs o p id e s h =
    let there : IfSome (Some p) (IsPlaceOf fs id) = subst (λ x. IfSome x (IsPlaceOf fs id)) s h in
    subst (λ gs. IsPlaceOf gs id p) e there

pub row_on : (fs gs : List Said) (id : ObjectId) (e : Entry) → fs ≡ gs → IsRow fs id e → IsRow gs id e
row_on fs gs id e same h = rw (sym same) h
