use Rattle.gix_revwalk.proofs.Ids.{same_id-equal, same_id-true}
use Rattle.std.proofs.lemmas.Slice.Eq.{slice_eq-Decides}
use Rattle.gix_questions.proofs.reach.are_same.Goals as goal

pub returns : goal.returns
returns c = (slice_eq-Decides (λ a b. (same_id-true a b, same_id-equal a b)) c.args.first.now c.args.second.now c.eq.result c.eq.ensures).0
