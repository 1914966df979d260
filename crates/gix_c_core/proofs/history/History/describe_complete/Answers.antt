use Rattle.std.proofs.Common.{◌≡◌, inl, inr, refl, ap, subst}
use Rattle.gix_describe.specs.Lent.{options_by, outcomes_by}
use Rattle.gix_describe.specs.Outcomes.{Describes}
use Rattle.gix_revwalk.specs.History.{History}
use Rattle.gix_c_core.specs.Behind.{commits_in, joined}
use Rattle.gix_c_core.proofs.Undescribed.{lacked, many-reached}
use Rattle.gix_c_core.proofs.history.History.describe_complete.Goals as goal

pub returns-in-Ok-clause-described : goal.returns-in-Ok-clause-described
returns-in-Ok-clause-described c =
    let lent : c.with_seed-marks.result.source.now ≡ c.args.self.now.graph.source = rw c.with_seed-marks.ensures.source c.source.ensures in
    subst (λ (h : History). Describes h c.args.commit (options_by c.args.names.now c.args.manner) (outcomes_by c.args.names.now c.in-Ok.found)) (ap joined lent) c.in-Ok.ensures.described

pub returns-in-Err-MissingStart-clause-refused : goal.returns-in-Err-MissingStart-clause-refused
returns-in-Err-MissingStart-clause-refused c =
    let lent : c.with_seed-marks.result.source.now ≡ c.args.self.now.graph.source = rw c.with_seed-marks.ensures.source c.source.ensures in
    let why = rw c.in-Err-MissingStart.field-0-is at c.in-Err-MissingStart.ensures.refused in
    inr (inl (refl, lacked c.args.manner.first_parent _ (commits_in c.args.self.now) c.args.commit (ap joined lent) why.2))

pub returns-in-Err-CounterFull-clause-refused : goal.returns-in-Err-CounterFull-clause-refused
returns-in-Err-CounterFull-clause-refused c =
    let lent : c.with_seed-marks.result.source.now ≡ c.args.self.now.graph.source = rw c.with_seed-marks.ensures.source c.source.ensures in
    let why = rw c.in-Err-CounterFull.field-0-is at c.in-Err-CounterFull.ensures.refused in
    let first = c.args.manner.first_parent in
    inr (inr (refl, many-reached first first _ (commits_in c.args.self.now) c.args.commit (ap joined lent) refl why.1))
