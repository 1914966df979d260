use Rattle.std.proofs.Common.{◌∙◌, refl, sym, ap}
use Rattle.std.specs.Map.{lookup}
use Rattle.gix_revwalk.specs.History.{same_id}
use Rattle.gix_revwalk.proofs.Places.{number-within, lookup-at, lookup-none, lookup-push, place-item}
use Rattle.gix_revwalk.proofs.graph.marks.Graph+S+u32+A.insert.Goals as goal

pub put-requires : goal.put-requires
put-requires g c = number-within c.args.self.now.held c.args.id _ (sym c.in-Some.ensures)

pub returns-in-Some-clause-old : goal.returns-in-Some-clause-old
returns-in-Some-clause-old g c = sym (lookup-at c.args.self.now.held c.args.id _ c.in-Some.ensures ∙ c.put.ensures.old)

pub returns-in-Some-clause-put : goal.returns-in-Some-clause-put
returns-in-Some-clause-put g c = c.put.ensures.put.held c.args.id (place-item _ c.args.id _ (sym c.in-Some.ensures))

pub returns-in-Ok-clause-old : goal.returns-in-Ok-clause-old
returns-in-Ok-clause-old g c = sym (lookup-none c.args.self.now.held c.args.id c.in_default.ensures)

pub returns-in-Ok-clause-put : goal.returns-in-Ok-clause-put
returns-in-Ok-clause-put g c q = ap (lookup (same_id q)) c.in-Ok.ensures.held ∙ lookup-push c.args.self.now.held c.args.id q c.args.value (sym c.in_default.ensures)

pub returns-in-Some-clause-source : goal.returns-in-Some-clause-source
returns-in-Some-clause-source g c = c.put.ensures.put.source

pub returns-in-Ok-clause-source : goal.returns-in-Ok-clause-source
returns-in-Ok-clause-source g c = c.add.ensures.source

pub returns-in-Err-clause-source : goal.returns-in-Err-clause-source
returns-in-Err-clause-source g c = c.add.ensures.source

pub returns-in-Err-clause-refused : goal.returns-in-Err-clause-refused
returns-in-Err-clause-refused g c = c.in-Err.ensures.refused

pub returns-in-Err-clause-cause : goal.returns-in-Err-clause-cause
returns-in-Err-clause-cause g c = refl

pub add-requires-clause-new : goal.add-requires-clause-new
add-requires-clause-new g c = sym c.in_default.ensures
