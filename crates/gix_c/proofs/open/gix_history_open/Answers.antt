use Rattle.std.proofs.Common.{subst, sym, arith, List, ℕ}
use Rattle.gix_commitgraph.proofs.Falling.{fall-acyclic}
use Rattle.gix_commitgraph.proofs.Joins.{joined-acyclic, joined-never_rise}
use Rattle.gix_commitgraph.specs.FileCommits.{history_in}
use Rattle.gix_commitgraph.specs.FileLevels.{IsLevelled}
use Rattle.gix_c_core.specs.Opened.{IsMadeOf}
use Rattle.gix_c_core.specs.declared.history.History.{History}
use Rattle.gix_c.proofs.open.gix_history_open.Goals as goal

pub returns-clause-opened : goal.returns-clause-opened
returns-clause-opened c =
    let put = c.in-Ok-holding.ensures in
    let made : IsMadeOf c.args.bytes.now c.in-Ok-over.history = subst (λ (file : List ℕ). IsMadeOf file c.in-Ok-over.history) c.in-Ok.ensures.same c.in-Ok-over.ensures in
    record {
      file = c.in-Ok.ensures.opened.0;
      fall = c.in-Ok.ensures.opened.1;
      handle = put.0;
      there = put.1;
      made = subst (λ (v : History). IsMadeOf c.args.bytes.now v) (sym put.2) made;
    }

pub returns-clause-premises : goal.returns-clause-premises
returns-clause-premises c =
    let levelled = subst (λ (file : List ℕ). IsLevelled (history_in file)) c.in-Ok.ensures.same c.in-Ok-over.ensures.levelled in
    (fall-acyclic (history_in c.args.bytes.now) levelled.fall, λ a b edge. let less = levelled.fall a b edge in omega (arith, less))

pub returns-clause-acyclic : goal.returns-clause-acyclic
returns-clause-acyclic c = λ newer acyclic.
    let levelled = subst (λ (file : List ℕ). IsLevelled (history_in file)) c.in-Ok.ensures.same c.in-Ok-over.ensures.levelled in
    joined-acyclic (history_in c.args.bytes.now) newer levelled acyclic

pub returns-clause-never_rise : goal.returns-clause-never_rise
returns-clause-never_rise c = λ newer none.
    let levelled = subst (λ (file : List ℕ). IsLevelled (history_in file)) c.in-Ok.ensures.same c.in-Ok-over.ensures.levelled in
    joined-never_rise (history_in c.args.bytes.now) newer levelled none
