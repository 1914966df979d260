-- A history whose levels fall has no cycles.
use Rattle.std.proofs.Common.{◌≡◌, ℕ, zero, suc, ◌+◌, ◌^◌, ◌<◌, ◌≤◌, ◌⊎◌, ◌&&◌, inl, inr, List, [], ◌∷◌, map, Option, Some, None, is_some, cond, Bool, true, false, nat_lt, nat_eq, IsTrue, refl, sym, ap, ◌∙◌, subst, arith}
use Rattle.std.proofs.lemmas.Bool.Decides.{nat_tests}
use Rattle.std.proofs.lemmas.Bool.{true_from_ne_false}
use Rattle.std.specs.List.{list_all}
use Rattle.gix_base.specs.declared.hash.ObjectId.{ObjectId}
use Rattle.gix_revwalk.specs.History.{History, Entry, IsAncestor, IsAcyclic, GenerationsNeverRise, entry_at, same_id, is_one_of, parents_in, generation_in, generation_of}
use Rattle.gix_revwalk.specs.History.IsAncestor.{itself, further}
use Rattle.gix_revwalk.proofs.Members.{one_of-cons_cases}
use Rattle.gix_ids.specs.TableForm.{id_of}
use Rattle.gix_ids.specs.TableIds.{rows_from, rows_in}
use Rattle.gix_commitgraph.specs.FileChunks.{layout_of}
use Rattle.gix_commitgraph.specs.FileCommits.{level_at, parents_at, entry_of_row, history_in}
use Rattle.gix_commitgraph.specs.FileLevels.{GenerationsFall, IsLevelled, LevelsFall, is_lower, is_above}
use Rattle.gix_commitgraph.specs.FileChecks.{IsSound}
use Rattle.gix_commitgraph.specs.declared.commit_graph.layout.Layout.{Layout}
use Rattle.gix_commitgraph.proofs.History.{history-has}

-- ---- any history

module _ (h : History) (falls : GenerationsFall h) where
  sinks : (a c : ObjectId) → IsAncestor h a c → generation_of h c ≤ generation_of h a
  sinks a c (itself has) = omega arith
  sinks a c (further b c' p e) = let s = sinks a b p in let f = falls b c e in omega arith

  pub fall-acyclic : IsAcyclic h
  fall-acyclic a b e p = let s = sinks b a p in let f = falls a b e in absurd (omega arith)

  pub fall-never_rise : GenerationsNeverRise h
  fall-never_rise a b e = let f = falls a b e in omega arith

-- ---- a file's

pub both : (x y : Bool) → (x && y) ≡ true → (x ≡ true) × (y ≡ true)
both true y e = (refl, e)
both false y e = cc

module _ (s : List ℕ) (l : Layout) where
  -- a parent's id is that of a position
  picked : (f : ℕ → Bool) (ps : List ℕ) (b : ObjectId) → list_all f ps ≡ true → IsTrue (is_one_of (map (id_of s l.table) ps) b) → (p : ℕ) × (f p ≡ true) × (id_of s l.table p ≡ b)
  picked f [] b all here = let none : false ≡ true = here in cc
  picked f (p ∷ ps) b all here =
      let at = both (f p) (list_all f ps) all in
      elim (one_of-cons_cases (id_of s l.table p) (map (id_of s l.table) ps) b here) [
        | inl e ↦ (p, at.0, sym e)
        | inr more ↦ picked f ps b at.1 more
      ]

  -- what is found is the commit at a position
  record Stands (id : ObjectId) (o : Option Entry) : Type 0 where
    place : ℕ
    below : place < l.table.count
    found : o ≡ Some (entry_of_row s l place)

  stands-from : (i n : ℕ) (id : ObjectId) → i + n ≤ l.table.count → (entry_at (rows_from s l.table (entry_of_row s l) i n) id ≡ None) ⊎ Stands id (entry_at (rows_from s l.table (entry_of_row s l) i n) id)
  stands-from i zero id h = inl refl
  stands-from i (suc n) id h =
      elim (same_id id (id_of s l.table i)) as (λ b. (cond b (Some (entry_of_row s l i)) (entry_at (rows_from s l.table (entry_of_row s l) (i + 1) n) id) ≡ None) ⊎ Stands id (cond b (Some (entry_of_row s l i)) (entry_at (rows_from s l.table (entry_of_row s l) (i + 1) n) id))) [
        | true ↦ inr (record { place = i; below = omega arith; found = refl })
        | false ↦ stands-from (i + 1) n id (omega arith)
      ]

  stands : l ≡ layout_of s → (id : ObjectId) → (entry_at (history_in s) id ≡ None) ⊎ Stands id (entry_at (history_in s) id)
  unfolding history_in
  stands laid id =
      let P : Layout → Type 0 = λ m. (entry_at (rows_in s m.table (entry_of_row s m)) id ≡ None) ⊎ Stands id (entry_at (rows_in s m.table (entry_of_row s m)) id) in
      subst P laid (stands-from 0 l.table.count id (omega arith))

  module _ (laid : l ≡ layout_of s) (sound : IsSound s l) (above : (i : ℕ) → i < l.table.count → is_above s l i ≡ true) where
    generation-at : (id : ObjectId) (k : ℕ) → k < l.table.count → entry_at (history_in s) id ≡ Some (entry_of_row s l k) → generation_of (history_in s) id ≡ level_at s l k
    generation-at id k h found = ap generation_in found

    -- a parent is the commit at a position of a lesser level
    record HasPlace (b : ObjectId) (k : ℕ) : Type 0 where
      place : ℕ
      below : place < l.table.count
      found : entry_at (history_in s) b ≡ Some (entry_of_row s l place)
      lower : level_at s l place < level_at s l k

    parent-at : (a b : ObjectId) (k : ℕ) → k < l.table.count → entry_at (history_in s) a ≡ Some (entry_of_row s l k) → IsTrue (is_one_of (parents_in (entry_at (history_in s) a)) b) → HasPlace b k
    parent-at a b k h found parent =
        let P : Option Entry → Type 0 = λ o. IsTrue (is_one_of (parents_in o) b) in
        let all = (both (nat_lt 0 (level_at s l k)) (list_all (is_lower s l (level_at s l k)) (parents_at s l k)) (above k h)).1 in
        let one = picked (is_lower s l (level_at s l k)) (parents_at s l k) b all (subst P found parent) in
        let lower = both (nat_lt one.0 l.table.count) (nat_lt (level_at s l one.0) (level_at s l k)) one.1 in
        let here : one.0 < l.table.count = grind (arith, nat_tests, lower.0) in
        let less : level_at s l one.0 < level_at s l k = grind (arith, nat_tests, lower.1) in
        record { place = one.0; below = here; found = history-has s l laid sound.sorted b one.0 (record { below = here; same = one.2 }); lower = less }

    parent-of : (a b : ObjectId) → IsTrue (is_one_of (parents_in (entry_at (history_in s) a)) b) → (k : ℕ) × (generation_of (history_in s) a ≡ level_at s l k) × HasPlace b k
    parent-of a b parent =
        elim (stands laid a) [
          | inl none ↦
              let P : Option Entry → Type 0 = λ o. IsTrue (is_one_of (parents_in o) b) in
              let wrong : false ≡ true = subst P none parent in
              cc
          | inr at ↦ (at.place, generation-at a at.place at.below at.found, parent-at a b at.place at.below at.found parent)
        ]

    pub levelled : ((i : ℕ) → i < l.table.count → level_at s l i < 2 ^ 30) → IsLevelled (history_in s)
    levelled bounds = record {
      known = λ a has. elim (stands laid a) [
        | inl none ↦
            let P : Option Entry → Type 0 = λ o. IsTrue (is_some o) in
            let wrong : false ≡ true = subst P none has in
            cc
        | inr at ↦ let e = generation-at a at.place at.below at.found in let b = bounds at.place at.below in omega arith
      ];
      closed = λ a b parent. ap is_some (parent-of a b parent).2.found;
      fall = λ a b e.
          let p = parent-of a b e.0 in
          let own = p.1 in
          let to = generation-at b p.2.place p.2.below p.2.found in
          let less = p.2.lower in
          omega arith;
    }

-- ---- the test of levels says whether they fall

module _ (s : List ℕ) (l : Layout) (laid : l ≡ layout_of s) where
  pub levels-fall : ((i : ℕ) → i < l.table.count → is_above s l i ≡ true) → LevelsFall s
  levels-fall each = let P : Layout → Type 0 = λ m. (i : ℕ) → i < m.table.count → is_above s m i ≡ true in subst P laid each

  pub fall-tells : (b : Bool) → (b ≡ false → (i : ℕ) × (i < l.table.count) × (is_above s l i ≡ false)) → LevelsFall s → IsTrue b
  fall-tells b one fall =
      let P : Layout → Type 0 = λ m. (i : ℕ) → i < m.table.count → is_above s m i ≡ true in
      let each : (i : ℕ) → i < l.table.count → is_above s l i ≡ true = subst P (sym laid) fall in
      true_from_ne_false b (λ no. let w = one no in let wrong : true ≡ false = sym (each w.0 w.1) ∙ w.2 in cc)
