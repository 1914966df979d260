use Rattle.gix_date.proofs.Months as months
use Rattle.gix_date.proofs.laws.months_are_pulled_back.Goals as goal

pub returns-clause-back : goal.returns-clause-back
returns-clause-back c = months.months_are_pulled_back

pub returns-clause-refused : goal.returns-clause-refused
returns-clause-refused c = months.months_before_years_are_refused
