use Rattle.std.proofs.Common.{◌≡◌, refl, Option, Some, None, IfSome}
use Rattle.gix_base.specs.declared.hash.ObjectId.{ObjectId}
use Rattle.gix_describe.specs.Lent.{NameMap, options_by, outcomes_by}
use Rattle.gix_describe.specs.Outcomes.{Keeps}
use Rattle.gix_describe.specs.declared.describe.nearest.Nearest.{Nearest}
use Rattle.gix_describe.specs.declared.describe.options.Manner.{Manner}
use Rattle.gix_describe.specs.declared.describe.options.Tie.TheVariants.{ById}
use Rattle.gix_describe.proofs.Asked.{err_came}
use Rattle.gix_describe.proofs.describe.function.counted.Goals as goal

kept_by : {A : Type 0} (s : ObjectId) (names : NameMap A) (m : Manner) (r : Option (Nearest A))
    → IfSome r (λ n. n.id ≡ s) → Keeps s (options_by names m) (outcomes_by names r)
kept_by s names m None kept = tt
kept_by s names m (Some n) kept = (kept, refl)

pub returns-clause-described : goal.returns-clause-described
returns-clause-described g c = rw c.with_names.ensures c.in_ok-found.ensures.described

pub returns-clause-kept : goal.returns-clause-kept
returns-clause-kept g c =
    let manner : Manner = record {
      max_candidates = c.args.options.max_candidates;
      fallback_to_oid = c.args.options.fallback_to_oid;
      first_parent = c.args.options.first_parent;
      tie = ById;
    } in
    rw c.with_names.ensures (kept_by c.args.commit.now c.args.options.name_by_oid manner c.in_ok-found.found c.in_ok-found.ensures.kept)

pub returns-clause-tied : goal.returns-clause-tied
returns-clause-tied g c = rw c.with_names.ensures c.in_ok-found.ensures.tied

pub returns-clause-held : goal.returns-clause-held
returns-clause-held g c = rw c.with_names.ensures c.in_ok-found.ensures.held

pub returns-clause-pops : goal.returns-clause-pops
returns-clause-pops g c = rw c.with_names.ensures c.in_ok-found.ensures.pops

pub returns-clause-untouched : goal.returns-clause-untouched
returns-clause-untouched g c = c.counted_by.ensures.untouched

pub returns-clause-no_walk : goal.returns-clause-no_walk
returns-clause-no_walk g c = λ absent idle. refl

pub returns-clause-history : goal.returns-clause-history
returns-clause-history g c = c.counted_by.ensures.history

pub returns-clause-count : goal.returns-clause-count
returns-clause-count g c = c.in_ok-found.ensures.count

pub returns-in_err-found-clause-refused : goal.returns-in_err-found-clause-refused
returns-in_err-found-clause-refused g c = rw (err_came c.from_residual.result _ c.from_residual.ensures.1) c.in_err-found.ensures.refused

pub returns-in_err-found-clause-fault : goal.returns-in_err-found-clause-fault
returns-in_err-found-clause-fault g c = rw (err_came c.from_residual.result _ c.from_residual.ensures.1) c.in_err-found.ensures.fault

pub returns-in_err-found-clause-untouched : goal.returns-in_err-found-clause-untouched
returns-in_err-found-clause-untouched g c = c.counted_by.ensures.untouched

pub returns-in_err-found-clause-no_walk : goal.returns-in_err-found-clause-no_walk
returns-in_err-found-clause-no_walk g c = rw (err_came c.from_residual.result _ c.from_residual.ensures.1) c.in_err-found.ensures.no_walk

pub returns-in_err-found-clause-history : goal.returns-in_err-found-clause-history
returns-in_err-found-clause-history g c = c.counted_by.ensures.history

pub returns-in_err-found-clause-count : goal.returns-in_err-found-clause-count
returns-in_err-found-clause-count g c = rw (err_came c.from_residual.result _ c.from_residual.ensures.1) c.in_err-found.ensures.count
