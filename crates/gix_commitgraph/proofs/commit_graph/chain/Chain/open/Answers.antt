use Rattle.std.proofs.Common.{◌≡◌, ◌++◌, map, true, false, sym, ◌∙◌, arith}
use Rattle.gix_commitgraph.specs.ChainCommits.{layers_in}
use Rattle.gix_commitgraph.specs.ChainFormat.{hash_of}
use Rattle.gix_commitgraph.specs.FileCommits.{history_in}
use Rattle.gix_commitgraph.specs.NewerCommits.{in_file}
use Rattle.gix_commitgraph.proofs.High.{upper-fit, high-tells, levelled-all}
use Rattle.gix_commitgraph.proofs.commit_graph.chain.Chain.open.Goals as goal

pub levels_fall-requires : goal.levels_fall-requires
levels_fall-requires g c =
    let h = history_in c.args.lowest in
    let u = layers_in h (map g.T.AsSlice.items c.args.files.now) in
    let some = c.in-Ok-add_all.ensures.added h (hash_of c.args.lowest) c.in-Ok.ensures in
    let fit = upper-fit h u c.in-Ok.chain.ids.items c.add_all.new.self.ids.items c.in-Ok.ensures.same_ids some.1.same_ids in
    let n = c.len-count.ensures in
    omega (arith, fit, n)

pub returns-clause-commits : goal.returns-clause-commits
returns-clause-commits g c = (c.in-Ok-add_all.ensures.added (history_in c.args.lowest) (hash_of c.args.lowest) c.in-Ok.ensures).1.commits

pub returns-clause-ids : goal.returns-clause-ids
returns-clause-ids g c = (c.in-Ok-add_all.ensures.added (history_in c.args.lowest) (hash_of c.args.lowest) c.in-Ok.ensures).1.same_ids

pub returns-clause-falls : goal.returns-clause-falls
returns-clause-falls g c =
    let h = history_in c.args.lowest in
    let u = layers_in h (map g.T.AsSlice.items c.args.files.now) in
    let some = c.in-Ok-add_all.ensures.added h (hash_of c.args.lowest) c.in-Ok.ensures in
    sym (high-tells (in_file c.add_all.new.self.commits.file ++ c.add_all.new.self.commits.newer) h u c.in-Ok.chain.ids.items c.add_all.new.self.ids.items c.len-count.result
    some.1.commits (let n = c.len-count.ensures in omega (arith, n)) c.in-Ok.ensures.same_ids some.1.same_ids c.in-Ok-levels_fall.fall c.in-Ok-levels_fall.ensures) ∙ c.if-not-fall.false

pub returns-clause-levelled : goal.returns-clause-levelled
returns-clause-levelled g c =
    let h = history_in c.args.lowest in
    levelled-all h (layers_in h (map g.T.AsSlice.items c.args.files.now)) c.premises.ensures.levelled (returns-clause-falls g c)

pub returns-then-not-fall-clause-no_levels : goal.returns-then-not-fall-clause-no_levels
returns-then-not-fall-clause-no_levels g c = λ is all.
    let h = history_in c.args.lowest in
    let u = layers_in h (map g.T.AsSlice.items c.args.files.now) in
    let some = c.in-Ok-add_all.ensures.added h (hash_of c.args.lowest) c.in-Ok.ensures in
    let tells = high-tells (in_file c.add_all.new.self.commits.file ++ c.add_all.new.self.commits.newer) h u c.in-Ok.chain.ids.items c.add_all.new.self.ids.items c.len-count.result
    some.1.commits (let n = c.len-count.ensures in omega (arith, n)) c.in-Ok.ensures.same_ids some.1.same_ids c.in-Ok-levels_fall.fall c.in-Ok-levels_fall.ensures in
    let wrong : false ≡ true = sym c.if-not-fall.true ∙ tells ∙ all in
    cc
