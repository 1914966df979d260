use Rattle.std.proofs.Common.{◌≡◌, ◌++◌, inl, inr, refl, ap, subst}
use Rattle.gix_base.specs.declared.error.message.Message.{Message}
use Rattle.gix_describe.specs.Lent.{options_by, outcomes_by}
use Rattle.gix_describe.specs.Outcomes.{Describes, Refuses}
use Rattle.gix_revwalk.specs.History.{History}
use Rattle.gix_c_core.specs.Behind.{commits_in, joined}
use Rattle.gix_c_core.proofs.Undescribed.{lacked, many-reached}
use Rattle.gix_c_core.proofs.history.History.describe_partial.Goals as goal

pub returns-in-Ok-clause-described : goal.returns-in-Ok-clause-described
returns-in-Ok-clause-described g c =
    let lent : c.with_seed-marks.result.source.read.now ≡ c.args.self.now.graph.source = rw (c.with_seed-marks.ensures.source, c.new-source.ensures.read) c.source.ensures in
    let same : joined c.with_seed-marks.result.source.read.now ++ g.K.Beyond.beyond ≡ commits_in c.args.self.now ++ g.K.Beyond.beyond = ap (λ (v : _). joined v ++ g.K.Beyond.beyond) lent in
    subst (λ (h : History). Describes h c.args.commit (options_by c.args.names.now c.args.manner) (outcomes_by c.args.names.now c.in-Ok.found)) same c.in-Ok.ensures.described

pub returns-in-MissingStart-clause-refused : goal.returns-in-MissingStart-clause-refused
returns-in-MissingStart-clause-refused g c =
    let lent : c.with_seed-marks.result.source.read.now ≡ c.args.self.now.graph.source = rw (c.with_seed-marks.ensures.source, c.new-source.ensures.read) c.source.ensures in
    let same : joined c.with_seed-marks.result.source.read.now ++ g.K.Beyond.beyond ≡ commits_in c.args.self.now ++ g.K.Beyond.beyond = ap (λ (v : _). joined v ++ g.K.Beyond.beyond) lent in
    let why = subst (λ (m : Message). Refuses (joined c.with_seed-marks.result.source.read.now ++ g.K.Beyond.beyond) c.args.commit (options_by c.args.names.now c.args.manner) m) c.in-MissingStart.is c.in-Err.ensures.refused in
    inr (inr (inl (refl, lacked c.args.manner.first_parent _ _ c.args.commit same why.2)), refl)

pub returns-in-CounterFull-clause-refused : goal.returns-in-CounterFull-clause-refused
returns-in-CounterFull-clause-refused g c =
    let lent : c.with_seed-marks.result.source.read.now ≡ c.args.self.now.graph.source = rw (c.with_seed-marks.ensures.source, c.new-source.ensures.read) c.source.ensures in
    let same : joined c.with_seed-marks.result.source.read.now ++ g.K.Beyond.beyond ≡ commits_in c.args.self.now ++ g.K.Beyond.beyond = ap (λ (v : _). joined v ++ g.K.Beyond.beyond) lent in
    let why = subst (λ (m : Message). Refuses (joined c.with_seed-marks.result.source.read.now ++ g.K.Beyond.beyond) c.args.commit (options_by c.args.names.now c.args.manner) m) c.in-CounterFull.is c.in-Err.ensures.refused in
    let first = c.args.manner.first_parent in
    inr (inr (inr (refl, many-reached first first _ _ c.args.commit same refl why.1)), refl)
