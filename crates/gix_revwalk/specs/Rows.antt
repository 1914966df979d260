-- Numbers of those ids that a history has.
use Rattle.std.specs.Prelude.{◌≡◌, List, map, Some, is_some}
use Rattle.std.specs.List.{filter}
use Rattle.gix_base.specs.declared.hash.ObjectId.{ObjectId}
use Rattle.gix_revwalk.specs.History.{History, entry_at}
use Rattle.gix_revwalk.specs.Graph.{Graphed}
use Rattle.gix_revwalk.specs.Number.{place_in}
use Rattle.gix_revwalk.specs.Numbers.{number_at}
use Rattle.gix_revwalk.specs.declared.numbers.Number.{Number}

-- The list ns has the numbers of those of ids that the history h has, in order.
abbrev pub AreNumbers : {S T : Type 0} → History → Graphed S T → List ObjectId → List Number → Type 0
AreNumbers h g ids ns = map (λ n. Some (place_in n)) ns ≡ map (number_at g) (filter (λ p. is_some (entry_at h p)) ids)
