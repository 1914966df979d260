-- What braces after an `@` ask for, in the form that the code passes on.
use Rattle.std.specs.Prelude.{ℕ, List, Some, Bool}
use Rattle.gix_spec.specs.declared.spec.parse.fault.Fault.{Fault}
use Rattle.gix_spec.specs.declared.spec.parse.fault.Fault.TheVariants.{ReflogWithoutName, SiblingWithoutName, AtRefused}
use Rattle.gix_spec.specs.declared.spec.parse.calls.Asked.{Asked}
use Rattle.gix_spec.specs.declared.spec.parse.calls.Asked.TheVariants.{Entry, Date, Sibling}
use Rattle.gix_spec.specs.Call.{reflog, sibling}
use Rattle.gix_spec.specs.Tree.{Tree}
use Rattle.gix_spec.specs.Trees.{of_reference, at_time, demand}

-- The fault of asking for this after an accepted prefix.
abbrev pub without_name : Asked → Fault
without_name (Entry query) = ReflogWithoutName
without_name (Date time) = ReflogWithoutName
without_name (Sibling which) = SiblingWithoutName

-- The call for what the braces inner ask for, followed by the tree onward.
abbrev pub call_asked : Asked → (inner : List ℕ) → Tree → Tree
call_asked (Entry query) inner onward = demand (reflog query) AtRefused (Some inner) onward
call_asked (Date time) inner onward = at_time time inner onward
call_asked (Sibling which) inner onward = demand (sibling which) AtRefused (Some inner) onward

-- The calls of a piece. Its three forms are reflog_calls, date_calls and sibling_calls.
abbrev pub asked_calls : Asked → (own inner : List ℕ) → (own_prefix : Bool) → Tree → Tree
asked_calls asked own inner own_prefix onward = of_reference own_prefix (without_name asked) own (call_asked asked inner onward)
