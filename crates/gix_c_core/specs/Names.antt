-- The ref names of a history (git-rev-parse, "Specifying Revisions", "<refname>").
use Rattle.std.specs.Prelude.{◌≡◌, ℕ, List, Option, Vec}
use Rattle.std.specs.BTreeMap.{get_by, insert_entry}
use Rattle.std.specs.Cmp.Lexicographic.{slice_cmp}
use Rattle.std.specs.Map.{remove_entry}
use Rattle.std.specs.Ordering.{is_eq, nat_cmp}
use Rattle.gix_base.specs.declared.hash.ObjectId.{ObjectId}
use Rattle.gix_c_core.specs.declared.history.History.{History}

-- The id for which the name stands in the history v, if it has this name.
abbrev pub id_named : List ℕ → History → Option ObjectId
id_named name v = get_by (λ k. slice_cmp nat_cmp name k.items) v.table.names

-- The entries of names and ids without the one of this name.
abbrev pub without_name : {A : Type 0} → List ℕ → List (Vec ℕ A × ObjectId) → List (Vec ℕ A × ObjectId)
without_name name entries = remove_entry (λ k. is_eq (slice_cmp nat_cmp name k.items)) entries

-- The entries new are those of old after the id was put in for the name: the entry of this name has
-- the id, and all others are as they were.
pub record IsPut {A : Type 0} (name : List ℕ) (id : ObjectId) (old new : List (Vec ℕ A × ObjectId)) : Type 0 where
  pub key : Vec ℕ A
  pub text : key.items ≡ name
  pub entries : new ≡ insert_entry (λ a b. slice_cmp nat_cmp a.items b.items) old key id
