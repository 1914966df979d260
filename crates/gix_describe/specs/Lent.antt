-- Descriptions by names that stay with the caller.
use Rattle.std.specs.Prelude.{ℕ, Option}
use Rattle.std.specs.Option.{option_map}
use Rattle.std.specs.Cow.{cow_slice_items}
use Rattle.std.specs.HashMap.{HashMap}
use Rattle.std.specs.declared.borrow.CowSlice.{CowSlice}
use Rattle.gix_base.specs.declared.hash.ObjectId.{ObjectId}
use Rattle.gix_revwalk.specs.declared.seed.Seed.{Seed}
use Rattle.gix_describe.specs.Described.{Description}
use Rattle.gix_describe.specs.declared.describe.nearest.Nearest.{Nearest}
use Rattle.gix_describe.specs.declared.describe.options.Manner.{Manner}
use Rattle.gix_describe.specs.declared.describe.options.Options.{Options}
use Rattle.gix_describe.specs.declared.describe.outcome.Outcome.{Outcome}

-- A map of names.
abbrev pub NameMap : Type 0 → Type 0
NameMap A = HashMap ObjectId (CowSlice ℕ A) Seed

-- The options that have these names and this manner.
abbrev pub options_by : {A : Type 0} → NameMap A → Manner → Options A
options_by names manner = record {
  name_by_oid = names;
  max_candidates = manner.max_candidates;
  fallback_to_oid = manner.fallback_to_oid;
  first_parent = manner.first_parent;
}

-- The description in a nearest name.
abbrev pub description_by : {A : Type 0} → Nearest A → Description
description_by n = record { name = option_map cow_slice_items n.name; depth = n.depth; commits_seen = n.commits_seen }

-- The outcome that has a nearest name, and these names.
abbrev pub outcome_by : {A : Type 0} → NameMap A → Nearest A → Outcome A
outcome_by names n = record { name = n.name; id = n.id; depth = n.depth; name_by_oid = names; commits_seen = n.commits_seen }

-- The outcome if there is a nearest name.
abbrev pub outcomes_by : {A : Type 0} → NameMap A → Option (Nearest A) → Option (Outcome A)
outcomes_by names found = option_map (outcome_by names) found
