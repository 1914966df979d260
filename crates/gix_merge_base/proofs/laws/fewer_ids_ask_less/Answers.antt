use Rattle.gix_merge_base.proofs.Reached.{reach_among}
use Rattle.gix_merge_base.proofs.laws.fewer_ids_ask_less.Goals as goal

pub returns : goal.returns
returns c = λ h ids more among. (
  λ acyclic a b reached e. acyclic a b (reach_among h ids more among a reached) e,
  λ never a b reached e. never a b (reach_among h ids more among a reached) e,
  λ falls a b reached e. falls a b (reach_among h ids more among a reached) e,
  λ none a b reached e. none a b (reach_among h ids more among a reached) e,
)
