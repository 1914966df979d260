use Rattle.std.proofs.Common.{◌≡◌, Option, is_some, ap, sym, subst, ◌∙◌, IfOk}
use Rattle.std.specs.Option.{option_map}
use Rattle.gix_revwalk.specs.Held.{entry_of}
use Rattle.gix_revwalk.specs.History.{Entry}
use Rattle.gix_commitgraph.specs.NewerCommits.{in_file}
use Rattle.gix_commitgraph.proofs.Joins.{first-has, first-lacks}
use Rattle.gix_commitgraph.proofs.commit_graph.joined.Joined+MemorySource+M+B.get.Goals as goal

pub returns-in-Some : goal.returns-in-Some
returns-in-Some g c =
    let e = sym c.in_ok-commit.ensures ∙ ap (option_map entry_of) c.in-Some.is in
    sym (first-has (in_file c.args.self.now.file) c.args.self.now.newer c.args.id (ap is_some e) ∙ e)

pub returns : goal.returns
returns g c =
    let P : Option Entry → Type 0 = λ o. IfOk c.get.result (λ found. option_map entry_of found ≡ o) in
    let none = sym c.in_ok-commit.ensures ∙ ap (option_map entry_of) c.in_default.is in
    subst P (sym (first-lacks (in_file c.args.self.now.file) c.args.self.now.newer c.args.id none)) c.get.ensures
