-- The parents that a row and its list in EDGE name.
use Rattle.std.proofs.Common.{◌≡◌, ◌≢◌, ℕ, suc, ◌+◌, ◌-◌, ◌*◌, ◌%◌, ◌^◌, ◌<◌, ◌≤◌, true, false, List, [], ◌∷◌, ◌++◌, length, map, take, drop, Some, nat_lt, append_assoc, refl, sym, ap, ◌∙◌, arith}
use Rattle.std.proofs.lemmas.Bool.{eq-eqb, ne_eqb, lt-ltb, le-ltb}
use Rattle.gix_base.specs.declared.hash.ObjectId.{ObjectId}
use Rattle.gix_revwalk.specs.History.{Entry}
use Rattle.gix_ids.specs.TableBytes.{word}
use Rattle.gix_commitgraph.specs.FileCommits.{date_of, level_of, edge_list, edge_word}
use Rattle.gix_graph_rows.specs.ChainRows.{Said, id_there, named_by, entry_there}
use Rattle.gix_graph_rows.specs.RowForm.{HasCount, date_in, level_in}
use Rattle.gix_graph_rows.proofs.RowAlone.{word-alone}

module _ (F : ℕ → ObjectId) (f : Said) where
  abbrev listed : ℕ → ℕ → List ObjectId
  listed k n = map F (edge_list f.bytes f.layout k n)

  one_more : (k n : ℕ) → nat_lt (edge_word f.bytes f.layout k) (2 ^ 31) ≡ true → listed k (suc n) ≡ F (edge_word f.bytes f.layout k) ∷ listed (k + 1) n
  one_more k n e = rw e refl

  the_last : (k n : ℕ) → nat_lt (edge_word f.bytes f.layout k) (2 ^ 31) ≡ false → listed k (suc n) ≡ F (edge_word f.bytes f.layout k - 2 ^ 31) ∷ []
  the_last k n e = rw e refl

  -- a number that is not the last of its list
  pub edge_more : (k n w : ℕ) (old new : List ObjectId) → w ≡ edge_word f.bytes f.layout k → w < 2 ^ 31 → k < n → new ≡ old ++ F (w % 2 ^ 31) ∷ []
      → new ++ listed (k + 1) (n - (k + 1)) ≡ old ++ listed k (n - k)
  edge_more k n w old new is small within new_is =
      let m = n - (k + 1) in
      let e : n - k ≡ suc m = omega arith in
      let here : edge_word f.bytes f.layout k < 2 ^ 31 = omega (arith, is) in
      let at : w % 2 ^ 31 ≡ edge_word f.bytes f.layout k = omega (arith, is) in
      ap (λ z. z ++ listed (k + 1) m) new_is ∙ append_assoc old (F (w % 2 ^ 31) ∷ []) (listed (k + 1) m)
      ∙ ap (λ z. old ++ (F z ∷ listed (k + 1) m)) at ∙ ap (λ z. old ++ z) (sym (one_more k m (lt-ltb _ _ here))) ∙ ap (λ z. old ++ listed k z) (sym e)

  -- the last number of its list
  pub edge_last : (k n w : ℕ) (old new : List ObjectId) → w ≡ edge_word f.bytes f.layout k → 2 ^ 31 ≤ w → w < 2 ^ 32 → k < n
      → new ≡ old ++ F (w % 2 ^ 31) ∷ [] → new ≡ old ++ listed k (n - k)
  edge_last k n w old new is great fits within new_is =
      let m = n - (k + 1) in
      let e : n - k ≡ suc m = omega arith in
      let here : 2 ^ 31 ≤ edge_word f.bytes f.layout k = omega (arith, is) in
      let at : w % 2 ^ 31 ≡ edge_word f.bytes f.layout k - 2 ^ 31 = omega (arith, is) in
      new_is ∙ ap (λ z. old ++ (F z ∷ [])) at ∙ ap (λ z. old ++ z) (sym (the_last k m (le-ltb _ _ here))) ∙ ap (λ z. old ++ listed k z) (sym e)

  abbrev named : ℕ → ℕ → List ObjectId
  named a b = map F (named_by f a b)

  pub none_named : (a b : ℕ) (xs : List ObjectId) → a ≡ 0x7000_0000 → length xs ≡ 0 → xs ≡ named a b
  none_named a b [] e n = rw (eq-eqb a 0x7000_0000 e) refl
  none_named a b (x ∷ xs) e n = absurd (omega (arith, n))

  pub one_named : (a b : ℕ) (xs old : List ObjectId) → a ≢ 0x7000_0000 → b ≡ 0x7000_0000 → length old ≡ 0 → xs ≡ old ++ F a ∷ [] → xs ≡ named a b
  one_named a b xs [] ne e n is = rw (ne_eqb a 0x7000_0000 ne, eq-eqb b 0x7000_0000 e) is
  one_named a b xs (x ∷ old) ne e n is = absurd (omega (arith, n))

  pub two_named : (a b : ℕ) (xs old : List ObjectId) → a ≢ 0x7000_0000 → b ≢ 0x7000_0000 → b < 2 ^ 31 → length old ≡ 0
      → xs ≡ (old ++ F a ∷ []) ++ F b ∷ [] → xs ≡ named a b
  two_named a b xs [] ne nb small n is = rw (ne_eqb a 0x7000_0000 ne, ne_eqb b 0x7000_0000 nb, lt-ltb b (2 ^ 31) small) is
  two_named a b xs (x ∷ old) ne nb small n is = absurd (omega (arith, n))

  pub more_named : (a b : ℕ) (xs old : List ObjectId) → a ≢ 0x7000_0000 → b ≢ 0x7000_0000 → 2 ^ 31 ≤ b → length old ≡ 0
      → xs ≡ (old ++ F a ∷ []) ++ listed (b - 2 ^ 31) (f.layout.edge_count - (b - 2 ^ 31)) → xs ≡ named a b
  more_named a b xs [] ne nb great n is = rw (ne_eqb a 0x7000_0000 ne, ne_eqb b 0x7000_0000 nb, le-ltb b (2 ^ 31) great) is
  more_named a b xs (x ∷ old) ne nb great n is = absurd (omega (arith, n))

-- how many parents a row names
pub one_count : (row : List ℕ) (n : ℕ) → word row 20 ≢ 0x7000_0000 → word row 24 ≡ 0x7000_0000 → n ≡ 1 → HasCount row n
one_count row n ne e is = rw (ne_eqb (word row 20) 0x7000_0000 ne, eq-eqb (word row 24) 0x7000_0000 e) is

pub two_count : (row : List ℕ) (n : ℕ) → word row 20 ≢ 0x7000_0000 → word row 24 ≢ 0x7000_0000 → word row 24 < 2 ^ 31 → n ≡ 2 → HasCount row n
two_count row n ne nb small is = rw (ne_eqb (word row 20) 0x7000_0000 ne, ne_eqb (word row 24) 0x7000_0000 nb, lt-ltb (word row 24) (2 ^ 31) small) is

pub more_count : (row : List ℕ) (n : ℕ) → word row 20 ≢ 0x7000_0000 → word row 24 ≢ 0x7000_0000 → 2 ^ 31 ≤ word row 24 → 2 ≤ n → HasCount row n
more_count row n ne nb great is = rw (ne_eqb (word row 20) 0x7000_0000 ne, ne_eqb (word row 24) 0x7000_0000 nb, le-ltb (word row 24) (2 ^ 31) great) is

-- the commit that a row says, by its bytes
pub commit_said : (fs : List Said) (f : Said) (i : ℕ) (row : List ℕ) (e : Entry) → row ≡ take 36 (drop (f.layout.rows + 36 * i) f.bytes)
    → e.parents ≡ map (id_there fs) (named_by f (word row 20) (word row 24)) → e.time ≡ date_in row → e.generation ≡ Some (level_in row) → e ≡ entry_there fs f i
commit_said fs f i row e is parents time generation =
    let at : (n : ℕ) → n + 4 ≤ 36 → word row n ≡ word f.bytes (f.layout.rows + 36 * i + n) = λ n h. ap (λ r. word r n) is ∙ word-alone f.bytes (f.layout.rows + 36 * i) n h in
    let first = at 20 (omega arith) in
    let second = at 24 (omega arith) in
    let high = at 28 (omega arith) in
    let low = at 32 (omega arith) in
    λ j. record {
      parents = (parents ∙ (λ k. map (id_there fs) (named_by f (first k) (second k)))) j;
      time = (time ∙ (λ k. date_of (high k) (low k))) j;
      generation = (generation ∙ ap (λ n. Some (level_of n)) high) j;
    }
