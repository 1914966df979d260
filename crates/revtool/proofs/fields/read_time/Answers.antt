use Rattle.std.proofs.Common.{rules}
use Rattle.revtool.proofs.PlainNumbers.{IsTime-plain}
use Rattle.revtool.proofs.fields.read_time.Goals as goal

pub returns-in_err-text_of-clause-some : goal.returns-in_err-text_of-clause-some
returns-in_err-text_of-clause-some c = (λ some. search rules, λ h. let plain = IsTime-plain c.args.field.now h in search rules)
