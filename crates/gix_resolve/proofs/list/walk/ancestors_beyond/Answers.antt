use Rattle.std.below.core.proofs.iter.Serving.{as_err}
use Rattle.std.proofs.Common.{◌≡◌, ◌-◌, drop, length, rules, take}
use Rattle.gix_revwalk.specs.History.{IsBeyond}
use Rattle.gix_resolve.proofs.ListWalks.{just_behind}
use Rattle.gix_resolve.proofs.list.walk.ancestors_beyond.Goals as goal

pub returns-clause-beyond : goal.returns-clause-beyond
returns-clause-beyond g c =
    let listed = c.in_ok-listed.listed in
    let read = c.deref.result.now in
    let copied : c.in_ok-to_vec.field-0.items ≡ take (length read - listed.hidden) (drop listed.hidden read) = search rules in
    just_behind c.list_beyond.new.graph (IsBeyond (g.S.Find.history c.args.graph.now.source) c.args.hidden.now c.args.shown.now) listed.numbers.items read c.in_ok-to_vec.field-0.items listed.hidden
    c.deref.ensures.value copied c.in_ok-listed.ensures.inside.0 c.in_ok-listed.ensures.beyond

pub returns-clause-numbers : goal.returns-clause-numbers
returns-clause-numbers g c = c.in_ok-listed.ensures.numbers

pub returns-in_err-listed-clause-beyond : goal.returns-in_err-listed-clause-beyond
returns-in_err-listed-clause-beyond g c = rw (as_err c.from_residual.ensures.0).1 tt

pub returns-in_err-listed-clause-numbers : goal.returns-in_err-listed-clause-numbers
returns-in_err-listed-clause-numbers g c = rw (as_err c.from_residual.ensures.0).1 tt

pub returns-in_err-listed-clause-taken : goal.returns-in_err-listed-clause-taken
returns-in_err-listed-clause-taken g c = c.list_beyond.ensures.taken

pub returns-in_err-to_vec-clause-beyond : goal.returns-in_err-to_vec-clause-beyond
returns-in_err-to_vec-clause-beyond g c = rw (as_err c.from_residual-in_err-to_vec.ensures.0).1 tt

pub returns-in_err-to_vec-clause-numbers : goal.returns-in_err-to_vec-clause-numbers
returns-in_err-to_vec-clause-numbers g c = rw (as_err c.from_residual-in_err-to_vec.ensures.0).1 tt

pub returns-clause-taken : goal.returns-clause-taken
returns-clause-taken g c = c.list_beyond.ensures.taken
