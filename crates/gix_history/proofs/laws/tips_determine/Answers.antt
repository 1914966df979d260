use Rattle.gix_history.proofs.Plain.{tips-determine}
use Rattle.gix_history.proofs.laws.tips_determine.Goals as goal

pub returns : goal.returns
returns c = tips-determine
