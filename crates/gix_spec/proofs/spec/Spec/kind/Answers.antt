use Rattle.std.proofs.Common.{sym, ap}
use Rattle.gix_spec.specs.Printed.{kind_of}
use Rattle.gix_spec.proofs.spec.Spec.kind.Goals as goal

pub returns-in-Range : goal.returns-in-Range
returns-in-Range c = sym (ap kind_of c.in-Range.is)

pub returns-in-Merge : goal.returns-in-Merge
returns-in-Merge c = sym (ap kind_of c.in-Merge.is)
