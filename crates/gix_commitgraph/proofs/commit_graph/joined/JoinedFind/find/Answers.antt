use Rattle.std.proofs.Common.{◌≡◌, Option, is_some, ap, sym, subst, ◌∙◌, IfOk}
use Rattle.std.specs.Option.{option_map}
use Rattle.gix_revwalk.specs.Held.{entry_of}
use Rattle.gix_revwalk.specs.History.{Entry}
use Rattle.gix_commitgraph.specs.NewerCommits.{in_file}
use Rattle.gix_commitgraph.proofs.Joins.{first-has, first-lacks}
use Rattle.gix_commitgraph.proofs.commit_graph.joined.JoinedFind.find.Goals as goal

pub returns-in-Some-clause-found : goal.returns-in-Some-clause-found
returns-in-Some-clause-found g c =
    let e = sym c.in_ok-commit.ensures.found ∙ ap (option_map entry_of) c.in-Some.is in
    sym (first-has (in_file c.args.self.now.file) (g.S.Find.history c.args.self.now.newer) c.args.id (ap is_some e) ∙ e)

pub returns-clause-found : goal.returns-clause-found
returns-clause-found g c =
    let P : Option Entry → Type 0 = λ o. IfOk c.find.result (λ found. option_map entry_of found ≡ o) in
    let none = sym c.in_ok-commit.ensures.found ∙ ap (option_map entry_of) c.in_default.is in
    subst P (sym (first-lacks (in_file c.args.self.now.file) (g.S.Find.history c.args.self.now.newer) c.args.id none)) (rw c.find_on_walk.ensures.same at c.find.ensures.found)
