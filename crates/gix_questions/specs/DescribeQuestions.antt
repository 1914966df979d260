-- What the answers about the name of a commit mean.
use Rattle.std.specs.Prelude.{◌≡◌, Option, IfSome, Result, Ok, Err}
use Rattle.gix_base.specs.declared.hash.ObjectId.{ObjectId}
use Rattle.gix_base.specs.declared.error.message.Message.{Message}
use Rattle.gix_revwalk.specs.History.{History}
use Rattle.gix_describe.specs.declared.describe.nearest.Nearest.{Nearest}
use Rattle.gix_describe.specs.declared.describe.options.Manner.{Manner}
use Rattle.gix_describe.specs.Lent.{NameMap, options_by, outcomes_by}
use Rattle.gix_describe.specs.Outcomes.{Describes, Refuses}
use Rattle.gix_describe.specs.Ties.{Ties}

-- In the history h, `found` is right for commit s by these names in this manner (`Describes`), and a
-- nearest name is that of s. If the history is walked, a name is the fixed answer (`Ties`). An error
-- says why s is refused (git-describe, "Description").
abbrev pub MeansDescription : {A : Type 0} → History → ObjectId → NameMap A → Manner → Result (Option (Nearest A)) Message → Type 0
MeansDescription h s names manner (Ok found) =
    Describes h s (options_by names manner) (outcomes_by names found) × IfSome found (λ n. n.id ≡ s)
    × Ties manner.tie h s (options_by names manner) (outcomes_by names found)
MeansDescription h s names manner (Err error) = Refuses h s (options_by names manner) error
