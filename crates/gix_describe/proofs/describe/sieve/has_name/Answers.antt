use Rattle.std.proofs.Common.{◌∙◌, sym}
use Rattle.gix_describe.specs.Outcomes.{names_of}
use Rattle.gix_describe.proofs.Sieve.{kept_back}
use Rattle.gix_describe.proofs.WalkSteps.{names_is}
use Rattle.gix_describe.proofs.describe.sieve.has_name.Goals as goal

pub returns-then-not-passes : goal.returns-then-not-passes
returns-then-not-passes g c = kept_back (names_of c.args.names.now.entries) c.args.id.now _ (c.requires c.args.id.now) (sym c.passes.ensures ∙ c.if-not-passes.true)

pub returns : goal.returns
returns g c = sym (names_is c.args.names.now.entries c.args.id.now c.contains_key.result c.contains_key.ensures)
