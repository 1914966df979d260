use Rattle.std.proofs.Common.{◌∙◌, sym}
use Rattle.gix_revwalk.proofs.Places.{number-within, lookup-at, lookup-none, place-item}
use Rattle.gix_revwalk.proofs.graph.Graph.get.Goals as goal

pub value-requires : goal.value-requires
value-requires g c = number-within _ c.args.id.now _ (sym c.in_ok-number.ensures)

pub returns-clause-value : goal.returns-clause-value
returns-clause-value g c = sym (lookup-at _ c.args.id.now _ c.in_ok-number.ensures ∙ c.value.ensures.value)

pub returns-clause-agrees : goal.returns-clause-agrees
returns-clause-agrees g c = c.value.ensures.agrees c.args.id.now (place-item _ _ _ (sym c.in_ok-number.ensures))

pub returns-in_err-number-clause-value : goal.returns-in_err-number-clause-value
returns-in_err-number-clause-value g c = rw c.from_residual.ensures (sym (lookup-none _ c.args.id.now c.in_err-number.ensures))
