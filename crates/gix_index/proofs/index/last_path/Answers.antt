use Rattle.std.proofs.Common.{◌∙◌, ap}
use Rattle.gix_index.specs.IndexForm.{path_of, last_path}
use Rattle.gix_index.proofs.index.last_path.Goals as goal

pub returns-in-Some : goal.returns-in-Some
returns-in-Some g c = c.as_slice.ensures.value ∙ ap path_of c.in-Some.ensures.value ∙ ap last_path c.deref.ensures.value

pub returns-in-None : goal.returns-in-None
returns-in-None g c = ap path_of c.in-None.ensures.value ∙ ap last_path c.deref.ensures.value
