use Rattle.std.proofs.Common.{sym}
use Rattle.gix_spec.proofs.Numbers.{number_of-other, number_of-some, number_of-none}
use Rattle.gix_spec.proofs.spec.parse.number.number.Goals as goal

pub returns-in_default : goal.returns-in_default
returns-in_default c = sym (number_of-other c.args.text.now c.in_default.ensures.cases.0)

pub returns-in-Ok-parse : goal.returns-in-Ok-parse
returns-in-Ok-parse c = sym (number_of-some c.args.text.now c.in-Ok-parse.number (rw c.in-Ok.ensures.cases.0 at c.in-Ok-parse.ensures.value.0))

pub returns-in-Err : goal.returns-in-Err
returns-in-Err c = sym (number_of-none c.args.text.now (rw c.in-Ok.ensures.cases.0 at c.in-Err.ensures.value.0))
