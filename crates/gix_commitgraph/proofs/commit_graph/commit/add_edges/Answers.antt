use Rattle.std.proofs.Common.{map, ◌-◌, rules, ◌≡◌, ◌++◌, ◌∷◌, [], arith}
use Rattle.gix_commitgraph.specs.ChainCommits.{id_in}
use Rattle.gix_commitgraph.specs.FileCommits.{edge_list}
use Rattle.gix_commitgraph.proofs.Edges.{pushed-last, pushed-one}
use Rattle.gix_commitgraph.proofs.commit_graph.commit.add_edges.Goals as goal

pub returns-then-edge-ge-HIGH : goal.returns-then-edge-ge-HIGH
returns-then-edge-ge-HIGH g c =
    let items : c.push.new.self.items ≡ c.loop-k.ids.items ++ c.id_in.result ∷ [] = search rules in
    pushed-last c.args.bytes.now c.args.l c.loop-k.k c.args.l.edge_count c.word_at-edge.result (omega arith) c.word_at-edge.ensures.value
    (id_in c.args.below.now c.args.bytes.now c.args.l) c.loop-k.ids.items c.push.new.self.items (c.args.ids.now.items ++ map (id_in c.args.below.now c.args.bytes.now c.args.l) (edge_list c.args.bytes.now c.args.l c.args.start (c.args.l.edge_count - c.args.start)))
    c.id_in.result c.id_in.ensures items c.loop-k.invariant (omega arith) (omega arith)

pub loop-k-preserved : goal.loop-k-preserved
loop-k-preserved g c =
    let items : c.push.new.self.items ≡ c.loop-k.ids.items ++ c.id_in.result ∷ [] = search rules in
    pushed-one c.args.bytes.now c.args.l c.loop-k.k c.args.l.edge_count c.word_at-edge.result (omega arith) c.word_at-edge.ensures.value
    (id_in c.args.below.now c.args.bytes.now c.args.l) c.loop-k.ids.items c.push.new.self.items (c.args.ids.now.items ++ map (id_in c.args.below.now c.args.bytes.now c.args.l) (edge_list c.args.bytes.now c.args.l c.args.start (c.args.l.edge_count - c.args.start)))
    c.id_in.result c.id_in.ensures items c.loop-k.invariant (omega arith)
