-- Lists of extra edges.
use Rattle.std.proofs.Common.{◌≡◌, ℕ, suc, ◌+◌, ◌-◌, ◌%◌, ◌^◌, ◌<◌, ◌≤◌, inl, inr, List, [], ◌∷◌, ◌++◌, length, map, Bool, nat_lt, true, false, refl, sym, ap, ◌∙◌, arith, append_assoc}
use Rattle.std.proofs.lemmas.Bool.{cases_lt}
use Rattle.std.proofs.lemmas.Bool.Decides.{nat_tests}
use Rattle.std.specs.List.{list_all}
use Rattle.gix_base.specs.declared.hash.ObjectId.{ObjectId}
use Rattle.gix_commitgraph.specs.FileCommits.{edge_word, edge_list}
use Rattle.gix_commitgraph.specs.declared.commit_graph.layout.Layout.{Layout}

module _ (s : List ℕ) (l : Layout) (k n w : ℕ) (below : k < n) (is : w ≡ edge_word s l k) where
  pub last-edge : 2 ^ 31 ≤ w → w < 2 ^ 32 → edge_list s l k (n - k) ≡ w % 2 ^ 31 ∷ []
  last-edge high fits =
      let e : n - k ≡ suc (n - (k + 1)) = omega arith in
      let t : nat_lt (edge_word s l k) (2 ^ 31) ≡ false = rw (← is) (grind (arith, nat_tests)) in
      let m : edge_word s l k - 2 ^ 31 ≡ w % 2 ^ 31 = rw (← is) (omega arith) in
      rw (e, t, m) refl

  pub more-edges : w < 2 ^ 31 → edge_list s l k (n - k) ≡ w % 2 ^ 31 ∷ edge_list s l (k + 1) (n - (k + 1))
  more-edges low =
      let e : n - k ≡ suc (n - (k + 1)) = omega arith in
      let t : nat_lt (edge_word s l k) (2 ^ 31) ≡ true = rw (← is) (grind (arith, nat_tests)) in
      let m : edge_word s l k ≡ w % 2 ^ 31 = rw (← is) (omega arith) in
      rw (e, t) (ap (λ p. p ∷ edge_list s l (k + 1) (n - (k + 1))) m)

  -- the place after a list is the same from any of its numbers but the last
  pub end-passed : w < 2 ^ 31 → k + 1 + length (edge_list s l (k + 1) (n - (k + 1))) ≡ k + length (edge_list s l k (n - k))
  end-passed low = rw (more-edges low) (omega arith)

  module _ (f : ℕ → Bool) where
    -- one of a list does not pass
    pub none-passes : w < 2 ^ 32 → f (w % 2 ^ 31) ≡ false → list_all f (edge_list s l k (n - k)) ≡ false
    none-passes fits fails =
        elim (cases_lt w (2 ^ 31)) [
          | inl low ↦ rw (more-edges low, fails) refl
          | inr high ↦ rw (last-edge high fits, fails) refl
        ]

    -- the last one passes
    pub last-passes : 2 ^ 31 ≤ w → w < 2 ^ 32 → f (w % 2 ^ 31) ≡ true → list_all f (edge_list s l k (n - k)) ≡ true
    last-passes high fits passes = rw (last-edge high fits, passes) refl

    -- one passes, and the others decide
    pub one-passes : w < 2 ^ 31 → f (w % 2 ^ 31) ≡ true → list_all f (edge_list s l (k + 1) (n - (k + 1))) ≡ list_all f (edge_list s l k (n - k))
    one-passes low passes = rw (more-edges low, passes) refl

  module _ (name : ℕ → ObjectId) (old new target : List ObjectId) (x : ObjectId) (named : x ≡ name (w % 2 ^ 31)) (pushed : new ≡ old ++ x ∷ [])
      (was : old ++ map name (edge_list s l k (n - k)) ≡ target) where
    -- the last of a list is pushed
    pub pushed-last : 2 ^ 31 ≤ w → w < 2 ^ 32 → new ≡ target
    pushed-last high fits = pushed ∙ ap (λ y. old ++ y ∷ []) named ∙ ap (λ ps. old ++ map name ps) (sym (last-edge high fits)) ∙ was

    -- one that others follow is pushed
    pub pushed-one : w < 2 ^ 31 → new ++ map name (edge_list s l (k + 1) (n - (k + 1))) ≡ target
    pushed-one low =
        let rest : List ObjectId = map name (edge_list s l (k + 1) (n - (k + 1))) in
        ap (λ xs. xs ++ rest) pushed ∙ append_assoc old (x ∷ []) rest ∙ ap (λ y. old ++ (y ∷ rest)) named
        ∙ ap (λ ps. old ++ map name ps) (sym (more-edges low)) ∙ was
