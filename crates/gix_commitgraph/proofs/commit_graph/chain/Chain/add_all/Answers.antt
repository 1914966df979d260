use Rattle.std.proofs.Common.{ℕ, ◌+◌, List, ◌∷◌, ◌++◌, map, drop, ap, sym, ◌∙◌, arith}
use Rattle.gix_commitgraph.specs.NewerCommits.{in_file}
use Rattle.gix_commitgraph.proofs.Chains.{reached-step, reached-refutes, reached-layers, reached-holds, rest-next, rest-none}
use Rattle.gix_commitgraph.proofs.commit_graph.chain.Chain.add_all.Goals as goal

pub returns-in-Err-clause-no_chain : goal.returns-in-Err-clause-no_chain
returns-in-Err-clause-no_chain g c = λ is h hashes holds all.
    let r = c.loop-file.invariant h hashes holds in
    let f = g.T.AsSlice.items in
    let more = map f (drop (c.loop-file.file-index + 1) c.args.files.now) in
    let next = rest-next f c.args.files.now c.loop-file.file-index c.file-item.result c.loop-file-test.true
    ∙ ap (λ (s : List ℕ). s ∷ more) (ap f (sym c.file-item.is) ∙ sym c.as_slice.ensures) in
    reached-refutes h hashes (map f c.args.files.now) (map f (drop c.loop-file.file-index c.args.files.now))
    (in_file c.loop-file.self.commits.file ++ c.loop-file.self.commits.newer) c.loop-file.self.ids.items c.loop-file.self.hashes.items r
    c.as_slice.result.now more next (c.in-Err.ensures.no_chain is r.now r.sums r.holds) all

pub loop-file-preserved : goal.loop-file-preserved
loop-file-preserved g c = λ h hashes holds.
    let r = c.loop-file.invariant h hashes holds in
    let f = g.T.AsSlice.items in
    let more = map f (drop (c.loop-file.file-index + 1) c.args.files.now) in
    let next = rest-next f c.args.files.now c.loop-file.file-index c.file-item.result c.loop-file-test.true
    ∙ ap (λ (s : List ℕ). s ∷ more) (ap f (sym c.file-item.is) ∙ sym c.as_slice.ensures) in
    reached-step h hashes (map f c.args.files.now) (map f (drop c.loop-file.file-index c.args.files.now))
    (in_file c.loop-file.self.commits.file ++ c.loop-file.self.commits.newer) c.loop-file.self.ids.items c.loop-file.self.hashes.items r
    c.as_slice.result.now more (in_file c.add.new.self.commits.file ++ c.add.new.self.commits.newer) c.add.new.self.ids.items c.add.new.self.hashes.items
    next (c.in-Ok.ensures.next r.now r.sums r.holds) (c.in-Ok.ensures.added r.now r.sums r.holds)

pub returns-clause-layers : goal.returns-clause-layers
returns-clause-layers g c = λ h hashes holds.
    let past = c.loop-file-test.false in
    reached-layers h hashes (map g.T.AsSlice.items c.args.files.now) (map g.T.AsSlice.items (drop c.loop-file.file-index c.args.files.now))
    (in_file c.loop-file.self.commits.file ++ c.loop-file.self.commits.newer) c.loop-file.self.ids.items c.loop-file.self.hashes.items (c.loop-file.invariant h hashes holds)
    (rest-none g.T.AsSlice.items c.args.files.now c.loop-file.file-index (omega (arith, past)))

pub returns-clause-added : goal.returns-clause-added
returns-clause-added g c = λ h hashes holds.
    let past = c.loop-file-test.false in
    reached-holds h hashes (map g.T.AsSlice.items c.args.files.now) (map g.T.AsSlice.items (drop c.loop-file.file-index c.args.files.now))
    (in_file c.loop-file.self.commits.file ++ c.loop-file.self.commits.newer) c.loop-file.self.ids.items c.loop-file.self.hashes.items (c.loop-file.invariant h hashes holds)
    (rest-none g.T.AsSlice.items c.args.files.now c.loop-file.file-index (omega (arith, past)))
