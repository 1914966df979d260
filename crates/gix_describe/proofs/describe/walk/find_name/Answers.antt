use Rattle.std.proofs.Common.{Some}
use Rattle.gix_revwalk.specs.Followed.{followed}
use Rattle.gix_describe.specs.DescribeRefusals.{refusal}
use Rattle.gix_describe.proofs.WalkSteps.{begin_refused}
use Rattle.gix_describe.proofs.Asked.{asks_on, asks_more, err_came, refusal_came}
use Rattle.gix_describe.proofs.describe.walk.find_name.Goals as goal

pub returns-in_err-walk-clause-asked : goal.returns-in_err-walk-clause-asked
returns-in_err-walk-clause-asked g c =
    let h = followed c.args.search.first_parent (g.S.Find.history c.args.graph.now.source) in
    rw (refusal_came c.from_residual.result _ c.from_residual.ensures.1) (asks_more _ _ _ _ _ _ (Some c.in_err-walk.field-0.0) (begin_refused h c.args.search.start) c.in_err-walk.ensures.asked)

pub returns-in_err-walk-clause-fault : goal.returns-in_err-walk-clause-fault
returns-in_err-walk-clause-fault g c = rw (err_came c.from_residual.result _ c.from_residual.ensures.1) c.in_err-walk.ensures.fault

pub returns-clause-found : goal.returns-clause-found
returns-clause-found g c = rw c.begin.ensures.asked.same_history at c.found_by.ensures.found

pub returns-clause-tied : goal.returns-clause-tied
returns-clause-tied g c = rw c.begin.ensures.asked.same_history at c.found_by.ensures.tied

pub returns-clause-held : goal.returns-clause-held
returns-clause-held g c = rw c.begin.ensures.asked.same_history at c.found_by.ensures.held

pub returns-clause-pops : goal.returns-clause-pops
returns-clause-pops g c = rw c.begin.ensures.asked.same_history at c.found_by.ensures.pops

pub returns-clause-fault : goal.returns-clause-fault
returns-clause-fault g c = rw c.begin.ensures.asked.same_history at c.found_by.ensures.fault

pub returns-clause-asked : goal.returns-clause-asked
returns-clause-asked g c =
    let asked = rw c.begin.ensures.asked.same_history at c.found_by.ensures.asked in
    asks_on _ _ _ _ _ _ _ (refusal c.found_by.result) c.in_ok-walk.ensures.asked asked
