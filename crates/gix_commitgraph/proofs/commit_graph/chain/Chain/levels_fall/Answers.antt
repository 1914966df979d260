use Rattle.std.proofs.Common.{◌≡◌, ◌-◌, ◌++◌, List, length, drop, IfOk, ap, ◌∙◌, subst, arith}
use Rattle.std.proofs.lemmas.List.{take_all, length-drop}
use Rattle.std.specs.List.{list_all}
use Rattle.gix_base.specs.declared.hash.ObjectId.{ObjectId}
use Rattle.gix_commitgraph.specs.ChainLevels.{is_high}
use Rattle.gix_commitgraph.specs.NewerCommits.{in_file}
use Rattle.gix_commitgraph.proofs.commit_graph.chain.Chain.levels_fall.Goals as goal

pub returns : goal.returns
returns g c =
    let s : List ObjectId = c.as_slice.result.now in
    let n = c.args.count in
    let P : List ObjectId → Type 0 = λ xs. IfOk c.are_high.result (λ b. b ≡ list_all (is_high (in_file c.args.self.now.commits.file ++ c.args.self.now.commits.newer)) xs) in
    let all = take_all (length s - n) (drop n s) (let e = length-drop n s in omega arith) in
    subst P (all ∙ ap (drop n) c.as_slice.ensures.value) c.are_high.ensures
