use Rattle.std.proofs.Common.{◌∙◌, ap, cond, Some}
use Rattle.gix_revwalk.specs.History.{same_id}
use Rattle.gix_revwalk.specs.Number.{place_in}
use Rattle.gix_revwalk.proofs.past.Past.settle.Goals as goal

pub settle_at-requires-clause-spot : goal.settle_at-requires-clause-spot
settle_at-requires-clause-spot g c = c.in-Ok.ensures.spot

pub settle_at-requires-clause-used : goal.settle_at-requires-clause-used
settle_at-requires-clause-used g c = c.requires

pub returns-clause-homes : goal.returns-clause-homes
returns-clause-homes g c q = c.settle_at.ensures.homes q ∙ ap (cond (same_id c.args.id q) (Some (place_in c.args.home))) (c.in-Ok.ensures.homes q)

pub returns-clause-told : goal.returns-clause-told
returns-clause-told g c q = c.settle_at.ensures.told q ∙ c.in-Ok.ensures.told q

pub returns-in_default-clause-told : goal.returns-in_default-clause-told
returns-in_default-clause-told g c = c.enter.ensures.told

pub returns-in_default-clause-refused : goal.returns-in_default-clause-refused
returns-in_default-clause-refused g c = c.enter.ensures.homes
