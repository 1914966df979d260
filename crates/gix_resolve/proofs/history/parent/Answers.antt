use Rattle.std.below.core.proofs.iter.Serving.{as_err}
use Rattle.std.proofs.Common.{◌≡◌, ◌∙◌, inl, inr, sym, refl, Some}
use Rattle.std.specs.List.{slice_get}
use Rattle.gix_revision.specs.History.{entry_at, parents_in}
use Rattle.gix_resolve.specs.Taken.{LacksOne, IsAskedNear}
use Rattle.gix_resolve.proofs.StepAsked.{where_refused}
use Rattle.gix_resolve.proofs.StepTaken.{near_start, near_found}
use Rattle.gix_resolve.proofs.history.parent.Goals as goal

pub returns-in_err-take_in-2-clause-taken : goal.returns-in_err-take_in-2-clause-taken
returns-in_err-take_in-2-clause-taken g c =
    let h = g.S.Find.history c.args.graph.now.source in
    let same = c.take_in.ensures.after.same_history in
    let found : Some c.in-Some.found ≡ slice_get (parents_in (entry_at h c.args.id)) c.args.place = rw same at (sym c.in-Some.is ∙ c.listed.ensures) in
    near_found h c.args.place c.args.id c.in-Some.found c.args.graph.now c.take_in.new.graph c.take_in-2.new.graph c.take_in.ensures.taken found (rw same at c.take_in-2.ensures.taken)

pub returns-else-branch-clause-taken : goal.returns-else-branch-clause-taken
returns-else-branch-clause-taken g c =
    let h = g.S.Find.history c.args.graph.now.source in
    let same = c.take_in.ensures.after.same_history in
    let found : Some c.in-Some.found ≡ slice_get (parents_in (entry_at h c.args.id)) c.args.place = rw same at (sym c.in-Some.is ∙ c.listed.ensures) in
    near_found h c.args.place c.args.id c.in-Some.found c.args.graph.now c.take_in.new.graph c.take_in-2.new.graph c.take_in.ensures.taken found (rw same at c.take_in-2.ensures.taken)

pub returns-then-branch-clause-taken : goal.returns-then-branch-clause-taken
returns-then-branch-clause-taken g c =
    let h = g.S.Find.history c.args.graph.now.source in
    let same = c.take_in.ensures.after.same_history in
    let found : Some c.in-Some.found ≡ slice_get (parents_in (entry_at h c.args.id)) c.args.place = rw same at (sym c.in-Some.is ∙ c.listed.ensures) in
    near_found h c.args.place c.args.id c.in-Some.found c.args.graph.now c.take_in.new.graph c.take_in-2.new.graph c.take_in.ensures.taken found (rw same at c.take_in-2.ensures.taken)

pub returns-in_default-clause-taken : goal.returns-in_default-clause-taken
returns-in_default-clause-taken g c =
    near_start (g.S.Find.history c.args.graph.now.source) c.args.place c.args.id c.args.graph.now c.take_in.new.graph c.take_in.ensures.taken

pub returns-in_err-take_in-clause-lacks : goal.returns-in_err-take_in-clause-lacks
returns-in_err-take_in-clause-lacks g c =
    let h = g.S.Find.history c.args.graph.now.source in
    let lacks : LacksOne (IsAskedNear h c.args.place c.args.id) c.take_in.new.graph = (c.args.id, inl refl, c.in_err-take_in.ensures.lacks) in
    where_refused _ lacks

pub returns-in_err-take_in-2-clause-lacks : goal.returns-in_err-take_in-2-clause-lacks
returns-in_err-take_in-2-clause-lacks g c =
    let h = g.S.Find.history c.args.graph.now.source in
    let same = c.take_in.ensures.after.same_history in
    let found : slice_get (parents_in (entry_at h c.args.id)) c.args.place ≡ Some c.in-Some.found = rw same at (sym c.listed.ensures ∙ c.in-Some.is) in
    let lacks : LacksOne (IsAskedNear h c.args.place c.args.id) c.take_in-2.new.graph = (c.in-Some.found, inr found, c.in_err-take_in-2.ensures.lacks) in
    where_refused _ lacks

pub returns-in_err-take_in-clause-found : goal.returns-in_err-take_in-clause-found
returns-in_err-take_in-clause-found g c = rw (as_err c.from_residual.ensures.0).1 tt

pub returns-in_err-take_in-clause-there : goal.returns-in_err-take_in-clause-there
returns-in_err-take_in-clause-there g c = rw (as_err c.from_residual.ensures.0).1 tt

pub returns-in_err-take_in-2-clause-found : goal.returns-in_err-take_in-2-clause-found
returns-in_err-take_in-2-clause-found g c = rw (as_err c.from_residual-in_err-take_in-2.ensures.0).1 tt

pub returns-in_err-take_in-2-clause-there : goal.returns-in_err-take_in-2-clause-there
returns-in_err-take_in-2-clause-there g c = rw (as_err c.from_residual-in_err-take_in-2.ensures.0).1 tt
