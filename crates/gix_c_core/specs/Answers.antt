-- What calls of C return.
use Prim.Native.Nat.{zero, suc}
use Rattle.std.specs.Prelude.{◌≡◌, ◌↔◌, ℕ, ℤ, pos, negsuc, List, ◌++◌, Bool, IsTrue, Some, None, if◌then◌else◌, map, take, drop, length, min}
use Rattle.gix_base.specs.declared.hash.ObjectId.{ObjectId}
use Rattle.std.specs.List.{IsDistinct}
use Rattle.gix_revwalk.specs.History.{History, Entry, Has, is_one_of, same_id}
use Rattle.gix_merge_base.specs.Bases.{AreBases}
use Rattle.gix_merge_base.specs.Keys.{IsInOrder}
use Rattle.gix_merge_base.specs.Octopus.{IsOctopusBase}
use Rattle.gix_merge_base.specs.Reducing.{IsIndependent, SomeOf}

-- What holds by the code of a call: ok if it is 0, none if it is 1, and refused if it is below 0. No
-- other code is returned.
abbrev pub ByCode : ℤ → Type 0 → Type 0 → Type 0 → Type 0
ByCode (pos zero) ok none refused = ok
ByCode (pos (suc zero)) ok none refused = none
ByCode (pos (suc (suc _))) ok none refused = ⊥
ByCode (negsuc _) ok none refused = refused

-- What holds by the code of a call that resolves a revision: ok if it is 0, fault if it is above 0,
-- and refused if it is below 0.
abbrev pub ByFault : ℤ → Type 0 → Type 0 → Type 0 → Type 0
ByFault (pos zero) ok fault refused = ok
ByFault (pos (suc _)) ok fault refused = fault
ByFault (negsuc _) ok fault refused = refused

-- What holds by the code of a call that answers yes or no: so if it is 1, other if it is 0, and
-- refused if it is below 0. No other code is returned.
abbrev pub ByYes : ℤ → Type 0 → Type 0 → Type 0 → Type 0
ByYes (pos zero) so other refused = other
ByYes (pos (suc zero)) so other refused = so
ByYes (pos (suc (suc _))) so other refused = ⊥
ByYes (negsuc _) so other refused = refused

-- The id with the given 20 bytes.
abbrev pub id_of : List ℕ → ObjectId
id_of bytes = record { 0 = bytes }

-- The 20 bytes of an id.
abbrev pub bytes_in : ObjectId → List ℕ
bytes_in id = id.0

-- The commit with the given parts, as C passes them.
abbrev pub entry_given : List (List ℕ) → ℤ → Bool → ℕ → Entry
entry_given parents time known generation =
    record { parents = map id_of parents; time = time; generation = if known then Some generation else None }

-- The number of the items xs is count. The first ones, as many as fit, are written over the first
-- items of the buffer old, which is new then. The rest of the buffer is unchanged.
pub record IsWritten (xs old new : List (List ℕ)) (count : ℕ) : Type 0 where
  pub counted : count ≡ length xs
  pub written : new ≡ take (min (length xs) (length old)) xs ++ drop (min (length xs) (length old)) old

-- A list of exactly the merge bases of f and os, each once and in order, is counted and written
-- (git-merge-base, "Description").
pub record HasBases (h : History) (f : ObjectId) (os : List ObjectId) (old new : List (List ℕ)) (count : ℕ) : Type 0 where
  pub ids : List ObjectId
  pub bases : AreBases h f os ids
  pub once : IsDistinct same_id ids
  pub order : IsInOrder h ids
  pub written : IsWritten (map bytes_in ids) old new count

-- The octopus base of f and os is written (git-merge-base, "--octopus").
pub record HasOctopusBase (h : History) (f : ObjectId) (os : List ObjectId) (new : List ℕ) : Type 0 where
  pub id : ObjectId
  pub base : IsOctopusBase h f os (Some id)
  pub written : new ≡ bytes_in id

-- Those of ids that no other one of ids reaches, each once and in the order of their first places,
-- are counted and written (git-merge-base, "--independent").
pub record HasIndependent (h : History) (ids : List ObjectId) (old new : List (List ℕ)) (count : ℕ) : Type 0 where
  pub left : List ObjectId
  pub independent : (c : ObjectId) → IsTrue (is_one_of left c) ↔ IsIndependent h ids c
  pub order : SomeOf ids left
  pub written : IsWritten (map bytes_in left) old new count

-- The list found has exactly those of ids that the history has, each once, by falling generation
-- number, then falling time, then rising id (git-rev-list, "--topo-order").
pub record AreNewest (h : History) (ids found : List ObjectId) : Type 0 where
  pub order : IsInOrder h found
  pub same : (c : ObjectId) → IsTrue (is_one_of found c) ↔ (IsTrue (is_one_of ids c) × Has h c)

-- Those of ids that the history has, newest first, are counted and written.
pub record HasNewestFirst (h : History) (ids : List ObjectId) (old new : List (List ℕ)) (count : ℕ) : Type 0 where
  pub found : List ObjectId
  pub newest : AreNewest h ids found
  pub written : IsWritten (map bytes_in found) old new count
