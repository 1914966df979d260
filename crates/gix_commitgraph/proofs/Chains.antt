-- One file more of a chain.
use Rattle.std.proofs.Common.{◌≡◌, ℕ, zero, suc, ◌+◌, ◌<◌, ◌≤◌, inl, inr, List, [], ◌∷◌, ◌++◌, length, map, drop, get_or, None, is_some, true, false, refl, sym, ap, ◌∙◌, subst, append_assoc, add-one, arith}
use Rattle.std.proofs.lemmas.List.{append-nil}
use Rattle.std.proofs.Math.Seq.{drop-cons}
use Rattle.gix_base.specs.declared.hash.ObjectId.{ObjectId}
use Rattle.gix_revwalk.specs.History.{History, Entry, entry_at}
use Rattle.gix_ids.specs.TableForm.{id_of}
use Rattle.gix_ids.specs.TableIds.{rows_from, rows_in}
use Rattle.gix_commitgraph.specs.FileChunks.{layout_of}
use Rattle.gix_commitgraph.specs.ChainCommits.{entry_in, ids_of, layer_in, layers_in}
use Rattle.gix_commitgraph.specs.ChainFormat.{AreLayers, IsLayer, hash_of}
use Rattle.gix_commitgraph.specs.ChainSteps.{Holds, HoldsSome, IsNext, IsTwice}
use Rattle.gix_commitgraph.specs.declared.commit_graph.layout.Layout.{Layout}
use Rattle.gix_commitgraph.proofs.Joins.{first-has, first-lacks, has-or-lacks}
use Rattle.gix_commitgraph.proofs.Layers.{ids-append}

-- histories of the same commits have the same ones before others
same-before : (j h r : History) → ((q : ObjectId) → entry_at j q ≡ entry_at h q) → (q : ObjectId) → entry_at (j ++ r) q ≡ entry_at (h ++ r) q
same-before j h r same q =
    elim (has-or-lacks (entry_at j q)) [
      | inl has ↦ first-has j r q has ∙ same q ∙ sym (first-has h r q (sym (ap is_some (same q)) ∙ has))
      | inr none ↦ first-lacks j r q none ∙ sym (first-lacks h r q (sym (same q) ∙ none))
    ]

-- what is held is also held under other names
pub held-as : (h j : History) (hashes own own' : List ℕ) (ids ids' : List ObjectId) → own' ≡ own → ids' ≡ ids → Holds h hashes j ids own → Holds h hashes j ids' own'
held-as h j hashes own own' ids ids' o i holds = record { commits = holds.commits; same_ids = i ∙ holds.same_ids; same_hashes = o ∙ holds.same_hashes }

module _ (s : List ℕ) (l : Layout) (laid : l ≡ layout_of s) (h j : History) (hashes own : List ℕ) (ids : List ObjectId) (holds : Holds h hashes j ids own) where
  is-layer : IsLayer own (length ids) s → IsLayer hashes (length (ids_of h)) s
  is-layer layer =
      let P : List ℕ → Type 0 = λ o. IsLayer o (length ids) s in
      let Q : List ObjectId → Type 0 = λ xs. IsLayer hashes (length xs) s in
      subst Q holds.same_ids (subst P holds.same_hashes layer)

  was-layer : IsLayer hashes (length (ids_of h)) s → IsLayer own (length ids) s
  was-layer layer =
      let P : List ℕ → Type 0 = λ o. IsLayer o (length ids) s in
      let Q : List ObjectId → Type 0 = λ xs. IsLayer hashes (length xs) s in
      subst P (sym holds.same_hashes) (subst Q (sym holds.same_ids) layer)

  -- the commits before a row are those of the chain
  before : (i : ℕ) → entry_at (j ++ rows_from s l.table (entry_in ids s l) 0 i) (id_of s l.table i)
      ≡ entry_at (h ++ rows_from s (layout_of s).table (entry_in (ids_of h) s (layout_of s)) 0 i) (id_of s (layout_of s).table i)
  before i =
      same-before j h (rows_from s l.table (entry_in ids s l) 0 i) holds.commits (id_of s l.table i)
      ∙ ap (λ (xs : List ObjectId). entry_at (h ++ rows_from s l.table (entry_in xs s l) 0 i) (id_of s l.table i)) holds.same_ids
      ∙ ap (λ (m : Layout). entry_at (h ++ rows_from s m.table (entry_in (ids_of h) s m) 0 i) (id_of s m.table i)) laid

  pub next-is : IsLayer own (length ids) s → ((i : ℕ) → i < l.table.count → entry_at (j ++ rows_from s l.table (entry_in ids s l) 0 i) (id_of s l.table i) ≡ None) → IsNext hashes h s
  next-is layer fresh =
      let P : Layout → Type 0 = λ m. (i : ℕ) → i < m.table.count → entry_at (j ++ rows_from s l.table (entry_in ids s l) 0 i) (id_of s l.table i) ≡ None in
      let all = subst P laid fresh in
      (is-layer layer, λ i b. sym (before i) ∙ all i b)

  pub next-holds : (k : History) (ids1 : List ObjectId) (own1 : List ℕ) → ((q : ObjectId) → entry_at k q ≡ entry_at (j ++ rows_in s l.table (entry_in ids s l)) q)
      → ((f : ℕ → Entry) → ids1 ≡ ids ++ ids_of (rows_in s l.table f)) → own1 ≡ own ++ hash_of s
      → Holds (h ++ layer_in h s) (hashes ++ hash_of s) k ids1 own1
  next-holds k ids1 own1 put more hash = record {
    commits = λ q.
        put q ∙ same-before j h (rows_in s l.table (entry_in ids s l)) holds.commits q
        ∙ ap (λ (xs : List ObjectId). entry_at (h ++ rows_in s l.table (entry_in xs s l)) q) holds.same_ids
        ∙ ap (λ (m : Layout). entry_at (h ++ rows_in s m.table (entry_in (ids_of h) s m)) q) laid;
    same_ids =
        more (entry_in (ids_of h) s (layout_of s)) ∙ ap (λ (xs : List ObjectId). xs ++ ids_of (rows_in s l.table (entry_in (ids_of h) s (layout_of s)))) holds.same_ids
        ∙ ap (λ (m : Layout). ids_of h ++ ids_of (rows_in s m.table (entry_in (ids_of h) s (layout_of s)))) laid
        ∙ sym (ids-append h (layer_in h s));
    same_hashes = hash ∙ ap (λ (o : List ℕ). o ++ hash_of s) holds.same_hashes;
  }

  pub twice-refutes : IsTwice j s l.table (entry_in ids s l) → IsNext hashes h s → ⊥
  twice-refutes (i, below, has) next =
      let P : Layout → Type 0 = λ m. i < m.table.count in
      let none = before i ∙ next.1 i (subst P laid below) in
      let wrong : false ≡ true = sym (ap is_some none) ∙ has in
      cc

pub layer-refutes : (s : List ℕ) (h j : History) (hashes own : List ℕ) (ids : List ObjectId) → Holds h hashes j ids own → (¬ IsLayer own (length ids) s) → IsNext hashes h s → ⊥
layer-refutes s h j hashes own ids holds none next = none (was-layer s (layout_of s) (λ i. layout_of s) h j hashes own ids holds next.0)

-- ---- all files

-- after some files of fs, the rest of them is left
pub record Reached (h : History) (hashes : List ℕ) (fs rest : List (List ℕ)) (j : History) (ids : List ObjectId) (own : List ℕ) : Type 0 where
  pub now : History
  pub sums : List ℕ
  pub holds : Holds now sums j ids own
  pub layers : AreLayers sums now rest → AreLayers hashes h fs
  pub only : AreLayers hashes h fs → AreLayers sums now rest
  pub total : now ++ layers_in now rest ≡ h ++ layers_in h fs

pub reached-start : (h : History) (hashes : List ℕ) (fs : List (List ℕ)) (j : History) (ids : List ObjectId) (own : List ℕ) → Holds h hashes j ids own → Reached h hashes fs fs j ids own
reached-start h hashes fs j ids own holds = record { now = h; sums = hashes; holds = holds; layers = λ a. a; only = λ a. a; total = refl }

module _ (h : History) (hashes : List ℕ) (fs rest : List (List ℕ)) (j : History) (ids : List ObjectId) (own : List ℕ) (r : Reached h hashes fs rest j ids own) where
  pub reached-step : (s : List ℕ) (more : List (List ℕ)) (j1 : History) (ids1 : List ObjectId) (own1 : List ℕ) → rest ≡ s ∷ more → IsNext r.sums r.now s
      → Holds (r.now ++ layer_in r.now s) (r.sums ++ hash_of s) j1 ids1 own1 → Reached h hashes fs more j1 ids1 own1
  reached-step s more j1 ids1 own1 is next holds =
      let P : List (List ℕ) → Type 0 = λ fs. AreLayers r.sums r.now fs in
      record {
        now = r.now ++ layer_in r.now s;
        sums = r.sums ++ hash_of s;
        holds = holds;
        layers = λ others. r.layers (subst P (sym is) (next.0, next.1, others));
        only = λ all. (subst P is (r.only all)).2;
        total = append_assoc r.now (layer_in r.now s) (layers_in (r.now ++ layer_in r.now s) more) ∙ ap (λ (l : List (List ℕ)). r.now ++ layers_in r.now l) (sym is) ∙ r.total;
      }

  pub reached-refutes : (s : List ℕ) (more : List (List ℕ)) → rest ≡ s ∷ more → (¬ IsNext r.sums r.now s) → AreLayers hashes h fs → ⊥
  reached-refutes s more is not all =
      let P : List (List ℕ) → Type 0 = λ fs. AreLayers r.sums r.now fs in
      let a = subst P is (r.only all) in
      not (a.0, a.1)

  pub reached-layers : rest ≡ [] → AreLayers hashes h fs
  reached-layers is = let P : List (List ℕ) → Type 0 = λ fs. AreLayers r.sums r.now fs in r.layers (subst P (sym is) tt)

  pub reached-holds : rest ≡ [] → HoldsSome (h ++ layers_in h fs) j ids own
  reached-holds is =
      let P : History → Type 0 = λ n. Holds n r.sums j ids own in
      let e : r.now ≡ h ++ layers_in h fs = sym (append-nil r.now) ∙ ap (λ (l : List (List ℕ)). r.now ++ layers_in r.now l) (sym is) ∙ r.total in
      (r.sums, subst P e r.holds)

-- the next file
pub rest-next : {X : Type 0} (f : X → List ℕ) (xs : List X) (i : ℕ) (d : X) → i < length xs → map f (drop i xs) ≡ f (get_or xs i d) ∷ map f (drop (i + 1) xs)
rest-next f xs i d h = rw add-one (ap (map f) (drop-cons xs i d h))

pub rest-none : {X : Type 0} (f : X → List ℕ) (xs : List X) (i : ℕ) → length xs ≤ i → map f (drop i xs) ≡ []
rest-none f [] zero h = refl
rest-none f [] (suc i) h = refl
rest-none f (x ∷ xs) zero h = absurd (omega arith)
rest-none f (x ∷ xs) (suc i) h = rest-none f xs i (omega arith)
