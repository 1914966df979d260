-- Names by a look-up in the map.
use Rattle.std.proofs.Common.{◌≡◌, ℕ, true, false, List, is_some, Option, Some, None}
use Rattle.std.specs.Option.{option_map}
use Rattle.std.specs.Map.{lookup}
use Rattle.std.proofs.lemmas.Map.Made.{lookup-map_values}
use Rattle.std.specs.Cow.{cow_slice_items}
use Rattle.std.specs.declared.borrow.CowSlice.{CowSlice}
use Rattle.gix_base.specs.declared.hash.ObjectId.{ObjectId}
use Rattle.gix_revwalk.specs.History.{same_id}
use Rattle.gix_describe.specs.Described.{name_at, IsNamed}
use Rattle.gix_describe.specs.Outcomes.{names_of}

-- names by a look-up in the map
pub name_at-names_of : {Z : Type 0} (es : List (ObjectId × CowSlice ℕ Z)) (c : ObjectId) → name_at (names_of es) c ≡ option_map cow_slice_items (lookup (same_id c) es)
name_at-names_of es c = lookup-map_values cow_slice_items (same_id c) es

pub named_from : {Z : Type 0} (es : List (ObjectId × CowSlice ℕ Z)) (c : ObjectId) → is_some (lookup (same_id c) es) ≡ true → IsNamed (names_of es) c
named_from es c e = by (lookup (same_id c) es) e (name_at-names_of es c)
  where
    by : {Z : Type 0} (o : Option (CowSlice ℕ Z)) → is_some o ≡ true → name_at (names_of es) c ≡ option_map cow_slice_items o → IsNamed (names_of es) c
    by None e n = cc
    by (Some x) e n = (cow_slice_items x, n)

pub unnamed_from : {Z : Type 0} (es : List (ObjectId × CowSlice ℕ Z)) (c : ObjectId) → is_some (lookup (same_id c) es) ≡ false → name_at (names_of es) c ≡ None
unnamed_from es c e = by (lookup (same_id c) es) e (name_at-names_of es c)
  where
    by : {Z : Type 0} (o : Option (CowSlice ℕ Z)) → is_some o ≡ false → name_at (names_of es) c ≡ option_map cow_slice_items o → name_at (names_of es) c ≡ None
    by None e n = n
    by (Some x) e n = cc
