use Rattle.std.proofs.Common.{rules, ◌≡◌, ◌++◌, ◌∷◌, []}
use Rattle.gix_commitgraph.proofs.Layers.{id-more}
use Rattle.gix_commitgraph.proofs.commit_graph.layer.add_ids.Goals as goal

pub loop-i-preserved : goal.loop-i-preserved
loop-i-preserved g c = λ f.
    let items : c.push.new.self.items ≡ c.loop-i.ids.items ++ c.id_at.result ∷ [] = search rules in
    id-more c.args.bytes.now c.args.t f c.args.ids.now.items c.loop-i.ids.items c.push.new.self.items c.id_at.result c.loop-i.i c.id_at.ensures items (c.loop-i.invariant f)
