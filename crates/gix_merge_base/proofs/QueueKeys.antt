-- The keys of a queue of numbers, and what is held.
use Rattle.std.proofs.Common.{◌≡◌, ℕ, refl, ap, sym, subst, ◌∙◌, List, [], ◌∷◌, Option, Some, None, IsTrue, is_some, map, ◌<◌, ◌⊎◌, inl, inr}
use Rattle.std.specs.Option.{unwrap_or}
use Rattle.std.specs.List.{AllByRecursion}
use Rattle.std.specs.List.Sorted.{IsPermutation}
use Rattle.gix_base.specs.declared.hash.ObjectId.{ObjectId}
use Rattle.gix_revwalk.specs.History.{History, Has, is_one_of}
use Rattle.gix_revwalk.specs.Graph.{Graphed, held_len, held_at, held_ids, KeepsHeld}
use Rattle.gix_revwalk.specs.Number.{place_in}
use Rattle.gix_revwalk.specs.Numbers.{item_at, number_at, place_of, Grows}
use Rattle.gix_revwalk.specs.Walks.{HoldsMore}
use Rattle.gix_revwalk.specs.declared.numbers.Number.{Number}
use Rattle.gix_revwalk.proofs.Places.{lookup-has, number-within, place-item}
use Rattle.gix_revwalk.proofs.Growth.{named-there, named-grown, number-grown}
use Rattle.gix_merge_base.specs.PaintQueue.{Keyed, AreHeld, IsHeld, key_at, id_at}
use Rattle.gix_merge_base.specs.declared.merge_base.gen_then_time.GenThenTime.{GenThenTime}
use Rattle.gix_merge_base.proofs.Numbered.{held-permutation, same-len}

-- the same ids have the same keys
pub keyed-same : {S T : Type 0} (h : History) (m n : Graphed S T) → held_ids n ≡ held_ids m → (ps : List (GenThenTime × Number)) → Keyed h m ps → Keyed h n ps
keyed-same h m n e ps k = subst (λ l. AllByRecursion (λ p. p.0 ≡ key_at h (unwrap_or (item_at l (place_in p.1)) (record { 0 = [] }))) ps) (sym e) k

pub keyed-permutation : {S T : Type 0} (h : History) (g : Graphed S T) (ps rs : List (GenThenTime × Number)) → IsPermutation ps rs → Keyed h g ps → Keyed h g rs
keyed-permutation h g ps rs perm k = held-permutation (λ p. p.0 ≡ key_at h (id_at g (place_in p.1))) ps rs perm k

-- one more entry
pub keyed-pushed : {S T : Type 0} (h : History) (m n : Graphed S T) → held_ids n ≡ held_ids m → (key : GenThenTime) (number : Number) (ps rs : List (GenThenTime × Number)) → key ≡ key_at h (id_at m (place_in number))
    → IsPermutation ((key, number) ∷ ps) rs → Keyed h m ps → Keyed h n rs
keyed-pushed h m n e key number ps rs is perm k = keyed-same h m n e rs (keyed-permutation h m ((key, number) ∷ ps) rs perm (is, k))

-- one entry less
pub keyed-popped : {S T : Type 0} (h : History) (m n : Graphed S T) → held_ids n ≡ held_ids m → (key : GenThenTime) (number : Number) (ps rs : List (GenThenTime × Number))
    → IsPermutation ps ((key, number) ∷ rs) → Keyed h m ps → Keyed h n rs
keyed-popped h m n e key number ps rs perm k = keyed-same h m n e rs (keyed-permutation h m ps ((key, number) ∷ rs) perm k).1

pub key-popped : {S T : Type 0} (h : History) (g : Graphed S T) (key : GenThenTime) (number : Number) (ps rs : List (GenThenTime × Number)) → IsPermutation ps ((key, number) ∷ rs) → Keyed h g ps → key ≡ key_at h (id_at g (place_in number))
key-popped h g key number ps rs perm k = (keyed-permutation h g ps ((key, number) ∷ rs) perm k).0

pub id-grown : {S T : Type 0} (m n : Graphed S T) → Grows m n → (k : ℕ) → k < held_len m → id_at n k ≡ id_at m k
id-grown m n grows k lt =
    let there = named-there m k lt in
    let a : id_at m k ≡ there.0 = ap (λ o. unwrap_or o (record { 0 = [] })) there.1 in
    let b : id_at n k ≡ there.0 = ap (λ o. unwrap_or o (record { 0 = [] })) (named-grown m n grows k there.0 there.1) in
    b ∙ sym a

-- more ids, and the same keys
pub keyed-grown : {S T : Type 0} (h : History) (m n : Graphed S T) → Grows m n → (ps : List (GenThenTime × Number)) → AreHeld m ps → Keyed h m ps → Keyed h n ps
keyed-grown h m n grows [] all k = tt
keyed-grown h m n grows (p ∷ ps) all k = (k.0 ∙ ap (key_at h) (sym (id-grown m n grows (place_in p.1) all.0)), keyed-grown h m n grows ps all.1 k.1)

-- the same ids are held
pub held-same : {S T : Type 0} (m n : Graphed S T) → held_ids n ≡ held_ids m → (q : ObjectId) → is_some (held_at n q) ≡ is_some (held_at m q)
held-same m n e q = lookup-has n.held q ∙ ap (λ l. is_some (place_of l q)) e ∙ sym (lookup-has m.held q)

pub holds-after : {S T : Type 0} (h : History) (ids : List ObjectId) (m n r : Graphed S T) → held_ids r ≡ held_ids n → HoldsMore h ids m n → HoldsMore h ids m r
holds-after h ids m n r e k q x = k q (sym (held-same n r e q) ∙ x)

pub holds-before : {S T : Type 0} (h : History) (ids : List ObjectId) (m n r : Graphed S T) → held_ids n ≡ held_ids m → HoldsMore h ids n r → HoldsMore h ids m r
holds-before h ids m n r e k q x = elim (k q x) as (λ _. IsHeld m q ⊎ (IsTrue (is_one_of ids q) × Has h q)) [ inl a ↦ inl (sym (held-same m n e q) ∙ a) | inr b ↦ inr b ]

-- what was held stays held
pub kept-same : {S T : Type 0} (m n : Graphed S T) → held_ids n ≡ held_ids m → KeepsHeld m n
kept-same m n e q k = held-same m n e q ∙ k

pub kept-held : {S T : Type 0} (m n : Graphed S T) → n.held ≡ m.held → KeepsHeld m n
kept-held m n e = kept-same m n (ap (map (λ x. x.0)) e)

pub kept-grown : {S T : Type 0} (m n : Graphed S T) → Grows m n → KeepsHeld m n
kept-grown m n grows q k = lookup-has n.held q ∙ there (number_at m q) refl (sym (lookup-has m.held q) ∙ k)
  where
    there : (o : Option ℕ) → o ≡ number_at m q → IsTrue (is_some o) → IsTrue (is_some (number_at n q))
    there None e has = cc
    there (Some i) e has = ap is_some (sym (number-grown m n grows q i e))

pub valid-same : {S T K : Type 0} (m n : Graphed S T) → held_ids n ≡ held_ids m → (ps : List (K × Number)) → AreHeld m ps → AreHeld n ps
valid-same m n e ps k = subst (λ l. AllByRecursion (λ p. place_in p.1 < l) ps) (sym (same-len m n e)) k

-- what is held is called by its number
pub number-id : {S T : Type 0} (g : Graphed S T) (id : ObjectId) (k : ℕ) → Some k ≡ place_of (held_ids g) id → (k < held_len g) × (id_at g k ≡ id)
number-id g id k e = (number-within g.held id k (sym e), ap (λ o. unwrap_or o (record { 0 = [] })) (place-item (held_ids g) id k (sym e)))
