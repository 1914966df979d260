use Rattle.revtool.proofs.Splitting.{fields_of-space, fields_of-no_space}
use Rattle.revtool.proofs.fields.split_field.Goals as goal

pub returns-in-Some : goal.returns-in-Some
returns-in-Some c = fields_of-space _ _ c.in-Some.ensures

pub returns-in-None : goal.returns-in-None
returns-in-None c = fields_of-no_space _ c.in-None.ensures
