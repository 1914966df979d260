use Rattle.std.proofs.Common.{◌∙◌, Some, sym, ap, is_some, refl}
use Rattle.gix_revwalk.proofs.Places.{lookup-has}
use Rattle.gix_revwalk.proofs.Taken.{grows-same, numbered-held, unnumbered, not_held, takes-held, len-held, added-number, added-data, added-len, added-grows}
use Rattle.gix_revwalk.proofs.Growth.{grows-marks}
use Rattle.gix_revwalk.proofs.numbers.take.Goals as goal

pub returns-in-Some-clause-taken : goal.returns-in-Some-clause-taken
returns-in-Some-clause-taken g c = takes-held _ c.args.graph.now c.args.id c.args.new (numbered-held c.args.graph.now c.args.id _ c.in-Some.ensures.number)

pub returns-in-Some-clause-grows : goal.returns-in-Some-clause-grows
returns-in-Some-clause-grows g c = grows-same c.args.graph.now c.args.graph.now refl refl

pub returns-in-Some-clause-len : goal.returns-in-Some-clause-len
returns-in-Some-clause-len g c = len-held _ c.args.graph.now c.args.id (numbered-held c.args.graph.now c.args.id _ c.in-Some.ensures.number)

pub returns-in_default-2-clause-grows : goal.returns-in_default-2-clause-grows
returns-in_default-2-clause-grows g c = rw (c.in_ok-found.ensures.held, c.in_ok-found.ensures.marked) (grows-same c.args.graph.now c.args.graph.now refl refl)

pub returns-clause-number : goal.returns-clause-number
returns-clause-number g c =
    let old = c.in_ok-found.ensures.held in
    let held = rw old at c.in_ok-add.ensures.held in
    ap Some (c.in_ok-add.ensures.number ∙ rw old refl) ∙ sym (added-number c.args.graph.now c.add.new.graph c.args.id c.copy_of.result held (sym c.in_default.ensures.number))

pub returns-clause-taken : goal.returns-clause-taken
returns-clause-taken g c =
    let old = c.in_ok-found.ensures.held in
    let held = rw old at c.in_ok-add.ensures.held in
    let found = rw c.in-Some-2.is at c.in_ok-found.ensures.found in
    rw (← c.copy_of.ensures.payload) (added-data _ c.args.graph.now c.add.new.graph c.args.id c.copy_of.result held (sym c.in_default.ensures.number) (ap is_some (sym found)))

pub returns-clause-grows : goal.returns-clause-grows
returns-clause-grows g c =
    let old = c.in_ok-found.ensures.held in
    let was = c.in_ok-found.ensures.marked in
    added-grows c.args.graph.now c.add.new.graph c.args.id c.copy_of.result (rw old at c.in_ok-add.ensures.held) (rw was at c.in_ok-add.ensures.marked)

pub returns-clause-len : goal.returns-clause-len
returns-clause-len g c =
    let old = c.in_ok-found.ensures.held in
    let held = rw old at c.in_ok-add.ensures.held in
    let found = rw c.in-Some-2.is at c.in_ok-found.ensures.found in
    added-len _ c.args.graph.now c.add.new.graph c.args.id c.copy_of.result held (sym c.in_default.ensures.number) (ap is_some (sym found))

pub returns-in-Some-clause-found : goal.returns-in-Some-clause-found
returns-in-Some-clause-found g c = numbered-held c.args.graph.now c.args.id _ c.in-Some.ensures.number ∙ sym c.in-Some.ensures.has

pub returns-in_default-2-clause-found : goal.returns-in_default-2-clause-found
returns-in_default-2-clause-found g c =
    let found = rw c.in_default-2.is at c.in_ok-found.ensures.found in
    rw c.in_ok-found.ensures.held (unnumbered c.args.graph.now c.args.id c.in_default.ensures.number) ∙ ap is_some found

pub returns-clause-found : goal.returns-clause-found
returns-clause-found g c =
    let old = c.in_ok-found.ensures.held in
    let held = rw old at c.in_ok-add.ensures.held in
    let found = rw c.in-Some-2.is at c.in_ok-found.ensures.found in
    lookup-has c.add.new.graph.held c.args.id ∙ ap is_some (added-number c.args.graph.now c.add.new.graph c.args.id c.copy_of.result held (sym c.in_default.ensures.number)) ∙ ap is_some found

pub returns-in_default-2-clause-marks : goal.returns-in_default-2-clause-marks
returns-in_default-2-clause-marks g c q = rw (c.in_ok-found.ensures.held, c.in_ok-found.ensures.marked) refl

pub returns-clause-marks : goal.returns-clause-marks
returns-clause-marks g c =
    let old = c.in_ok-found.ensures.held in
    let was = c.in_ok-found.ensures.marked in
    grows-marks c.args.graph.now c.add.new.graph (added-grows c.args.graph.now c.add.new.graph c.args.id c.copy_of.result (rw old at c.in_ok-add.ensures.held) (rw was at c.in_ok-add.ensures.marked)) c.known.ensures.ids

pub returns-in-Some-clause-held : goal.returns-in-Some-clause-held
returns-in-Some-clause-held g c held = (refl, refl)

pub returns-in_err-found-clause-held : goal.returns-in_err-found-clause-held
returns-in_err-found-clause-held g c held = absurd (not_held c.args.graph.now c.args.id c.in_default.ensures.number held)

pub returns-in_default-2-clause-held : goal.returns-in_default-2-clause-held
returns-in_default-2-clause-held g c held = absurd (not_held c.args.graph.now c.args.id c.in_default.ensures.number held)

pub returns-in_err-add-clause-held : goal.returns-in_err-add-clause-held
returns-in_err-add-clause-held g c held = absurd (not_held c.args.graph.now c.args.id c.in_default.ensures.number held)

pub returns-clause-held : goal.returns-clause-held
returns-clause-held g c held = absurd (not_held c.args.graph.now c.args.id c.in_default.ensures.number held)

pub returns-in-Some-clause-number : goal.returns-in-Some-clause-number
returns-in-Some-clause-number g c = c.in-Some.ensures.number

pub returns-in-Some-clause-marks : goal.returns-in-Some-clause-marks
returns-in-Some-clause-marks g c q = refl

pub returns-in-Some-clause-count : goal.returns-in-Some-clause-count
returns-in-Some-clause-count g c = refl

pub returns-clause-has : goal.returns-clause-has
returns-clause-has g c = ap is_some (rw c.in-Some-2.is at c.in_ok-found.ensures.found)

pub returns-clause-history : goal.returns-clause-history
returns-clause-history g c = ap g.S.Find.history c.add.ensures.source ∙ c.ask.ensures.history

pub returns-clause-count : goal.returns-clause-count
returns-clause-count g c = ap g.S.Find.fault_count c.add.ensures.source ∙ c.in_ok-found.ensures.count

pub returns-in_default-2-clause-has : goal.returns-in_default-2-clause-has
returns-in_default-2-clause-has g c = ap is_some (rw c.in_default-2.is at c.in_ok-found.ensures.found)

pub returns-in_default-2-clause-number : goal.returns-in_default-2-clause-number
returns-in_default-2-clause-number g c = rw c.ask.ensures.held c.in_default.ensures.number

pub returns-in_default-2-clause-history : goal.returns-in_default-2-clause-history
returns-in_default-2-clause-history g c = c.ask.ensures.history

pub returns-in_default-2-clause-count : goal.returns-in_default-2-clause-count
returns-in_default-2-clause-count g c = c.in_ok-found.ensures.count

pub returns-in_err-found-clause-history : goal.returns-in_err-found-clause-history
returns-in_err-found-clause-history g c = c.ask.ensures.history

pub returns-in-Some-clause-has : goal.returns-in-Some-clause-has
returns-in-Some-clause-has g c = sym c.in-Some.ensures.has

pub returns-in-Some-clause-history : goal.returns-in-Some-clause-history
returns-in-Some-clause-history g c = refl
