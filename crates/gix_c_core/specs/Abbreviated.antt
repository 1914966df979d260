-- Abbreviated object names that mean one id (git-rev-parse, "--short").
use Rattle.std.specs.Prelude.{◌≤◌, ◌<◌, ℕ, List, Bool, true, false, IsTrue, take}
use Rattle.gix_base.specs.Hash.{id_text}
use Rattle.gix_base.specs.declared.hash.ObjectId.{ObjectId}
use Rattle.gix_resolve.specs.Steps.{begins_with}
use Rattle.gix_resolve.specs.declared.lookup.Found.{Found}
use Rattle.gix_resolve.specs.declared.lookup.Found.TheVariants.{Nothing, One, Many}
use Rattle.gix_revwalk.specs.History.{is_one_of, same_id}

-- Whether no other id than id was found.
abbrev pub is_only : Found → ObjectId → Bool
is_only Nothing id = true
is_only (One other) id = same_id other id
is_only Many id = false

-- No other of the ids than id begins with its first n digits.
abbrev pub IsAlone : List ObjectId → ObjectId → ℕ → Type 0
IsAlone ids id n =
    (q : ObjectId) → IsTrue (is_one_of ids q) → IsTrue (begins_with (take n (id_text id)) q) → IsTrue (same_id q id)

-- The number n is the least one from `least` on such that id is alone with its first n digits, or
-- it is 40, and then id is not alone with fewer.
pub record IsShort (ids : List ObjectId) (id : ObjectId) (least n : ℕ) : Type 0 where
  pub enough : least ≤ n
  pub most : n ≤ 40
  pub alone : n < 40 → IsAlone ids id n
  pub short : (m : ℕ) → least ≤ m → m < n → ¬ IsAlone ids id m
