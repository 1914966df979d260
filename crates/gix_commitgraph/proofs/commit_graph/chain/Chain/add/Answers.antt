use Rattle.std.proofs.Common.{ℕ, List, ◌++◌, ap, sym, ◌∙◌}
use Rattle.gix_base.specs.declared.hash.ObjectId.{ObjectId}
use Rattle.gix_ids.specs.TableIds.{rows_in}
use Rattle.gix_commitgraph.specs.ChainCommits.{ids_of}
use Rattle.gix_commitgraph.specs.ChainFormat.{hash_of}
use Rattle.gix_commitgraph.specs.NewerCommits.{in_file}
use Rattle.gix_commitgraph.proofs.Chains.{next-is, next-holds, twice-refutes, held-as}
use Rattle.gix_commitgraph.proofs.commit_graph.chain.Chain.add.Goals as goal

pub returns-in-Err-clause-no_chain : goal.returns-in-Err-clause-no_chain
returns-in-Err-clause-no_chain g c = λ is h hashes holds.
    let j = in_file c.args.self.now.commits.file ++ c.args.self.now.commits.newer in
    let ids = c.as_slice-ids.result.now in
    let own = c.as_slice.result.now in
    let kept = held-as h j hashes c.args.self.now.hashes.items own c.args.self.now.ids.items ids c.as_slice.ensures.value c.as_slice-ids.ensures.value holds in
    twice-refutes c.args.bytes.now c.in-Some.layout c.in-Some.ensures.value h j hashes own ids kept (c.in-Err.ensures.twice (c.fault_of.ensures.twice is))

pub returns-in-Ok-add_hash-clause-next : goal.returns-in-Ok-add_hash-clause-next
returns-in-Ok-add_hash-clause-next g c = λ h hashes holds.
    let j = in_file c.args.self.now.commits.file ++ c.args.self.now.commits.newer in
    let ids = c.as_slice-ids.result.now in
    let own = c.as_slice.result.now in
    let kept = held-as h j hashes c.args.self.now.hashes.items own c.args.self.now.ids.items ids c.as_slice.ensures.value c.as_slice-ids.ensures.value holds in
    next-is c.args.bytes.now c.in-Some.layout c.in-Some.ensures.value h j hashes own ids kept c.in-Some.ensures.layer c.in_default-insert_rows.ensures.fresh

pub returns-in-Ok-add_hash-clause-added : goal.returns-in-Ok-add_hash-clause-added
returns-in-Ok-add_hash-clause-added g c = λ h hashes holds.
    let j = in_file c.args.self.now.commits.file ++ c.args.self.now.commits.newer in
    let ids = c.as_slice-ids.result.now in
    let own = c.as_slice.result.now in
    let kept = held-as h j hashes c.args.self.now.hashes.items own c.args.self.now.ids.items ids c.as_slice.ensures.value c.as_slice-ids.ensures.value holds in
    next-holds c.args.bytes.now c.in-Some.layout c.in-Some.ensures.value h j hashes own ids kept (in_file c.insert_rows.new.commits.file ++ c.insert_rows.new.commits.newer)
    c.add_ids.new.ids.items c.add_hash.new.hashes.items c.in_default-insert_rows.ensures.put
    (λ f. c.in-Ok.ensures f ∙ ap (λ (xs : List ObjectId). xs ++ ids_of (rows_in c.args.bytes.now c.in-Some.layout.table f)) (sym c.as_slice-ids.ensures.value))
    (c.in-Ok-add_hash.ensures ∙ ap (λ (o : List ℕ). o ++ hash_of c.args.bytes.now) (sym c.as_slice.ensures.value))
