use Rattle.std.proofs.Common.{◌≡◌, ◌-◌, ap, sym, ◌∙◌, arith}
use Rattle.gix_describe.specs.Lacking.{lacks}
use Rattle.gix_describe.proofs.Lacking.{lacks_or}
use Rattle.gix_describe.proofs.describe.tally.gain.Goals as goal

pub returns-then-old-marks-clause-gained : goal.returns-then-old-marks-clause-gained
returns-then-old-marks-clause-gained g c = λ k below.
    let old = c.args.old in
    let marks = c.args.marks in
    let same : lacks k old ≡ lacks k old - (lacks k old - lacks k marks) = ap (lacks k) (sym c.if-old-marks.true) ∙ lacks_or k old marks in
    omega arith
