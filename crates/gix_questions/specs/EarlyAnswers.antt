-- What an exact answer asks of the history.
use Rattle.std.specs.Prelude.{List, Bool, true, false}
use Rattle.gix_base.specs.declared.hash.ObjectId.{ObjectId}
use Rattle.gix_revwalk.specs.History.{History}
use Rattle.gix_merge_base.specs.Premises.{IsAcyclicFrom, GenerationsNeverRiseFrom}

-- The premise of an exact answer. If it is made early, the excluded ids reach no cycle in the
-- history h. Otherwise no generation number rises from any of all ids.
abbrev pub Premise : (early : Bool) → History → (excluded all : List ObjectId) → Type 0
Premise true h excluded all = IsAcyclicFrom h excluded
Premise false h excluded all = GenerationsNeverRiseFrom h all
