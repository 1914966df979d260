-- Names and lists of ids that a program keeps apart from a history.
use Rattle.std.specs.Prelude.{◌≡◌, ◌-◌, ℕ, List, ◌++◌, Option, Some, map, take, drop, length, min}
use Rattle.gix_base.specs.declared.hash.ObjectId.{ObjectId}
use Rattle.gix_revwalk.specs.History.{History}
use Rattle.gix_revision.specs.Types.Spec.{Spec}
use Rattle.gix_describe.specs.Described.{Names}
use Rattle.gix_resolve.specs.ListMeaning.{ListsMeant}
use Rattle.gix_c_core.specs.Answers.{bytes_in}
use Rattle.gix_c_core.specs.Descriptions.{AreNames}
use Rattle.gix_c_core.specs.Missing.{ListsMissing}
use Rattle.gix_c_core.specs.Spans.{spec_at}
use Rattle.gix_c_core.specs.declared.revisions.Span.{Span}
use Rattle.gix_c_core.specs.declared.stock_handle.StockHandle.{StockHandle}

-- The table gives each commit the name that the list of names gives it.
abbrev pub HasNames : StockHandle → Names → Type 0
HasNames table names = AreNames table.value.names.entries names

-- There is a table that has these names.
abbrev pub IsTable : Names → Option StockHandle → Type 0
IsTable names o = (table : StockHandle) × (o ≡ Some table) × HasNames table names

-- There is a list of exactly the commits of the span in the history h, each once, by rising id.
pub record IsListOf (h : History) (span : Span) (o : Option StockHandle) : Type 0 where
  pub list : StockHandle
  pub there : o ≡ Some list
  pub spec : Spec
  pub stands : spec_at span ≡ Some spec
  pub all : List ObjectId
  pub lists : ListsMeant h spec all
  pub holds : list.value.ids.items ≡ map bytes_in all

-- There is a list of exactly the missing parents of the history h, each once, by rising id.
pub record IsListOfMissing (h : History) (o : Option StockHandle) : Type 0 where
  pub list : StockHandle
  pub there : o ≡ Some list
  pub all : List ObjectId
  pub lists : ListsMissing h all
  pub holds : list.value.ids.items ≡ map bytes_in all

-- The items of xs from the given place on, as many as fit, are written over the first items of the
-- buffer old, which is new then. The rest of the buffer is unchanged. The number of items written
-- is count.
pub record IsRead (xs : List (List ℕ)) (from : ℕ) (old new : List (List ℕ)) (count : ℕ) : Type 0 where
  pub counted : count ≡ min (length xs - from) (length old)
  pub written : new ≡ take count (drop from xs) ++ drop count old
