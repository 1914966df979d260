use Rattle.gix_history.proofs.Beyonds.{found-on}
use Rattle.gix_history.proofs.partial.PartialFind.find.Goals as goal

pub returns-in-Ok-Some-clause-found : goal.returns-in-Ok-Some-clause-found
returns-in-Ok-Some-clause-found g c =
    found-on (g.S.Find.history c.args.self.now.read) g.K.Beyond.beyond c.args.id _ (rw c.in-Ok-Some.field-0-is at c.in-Ok-Some.ensures.found)
