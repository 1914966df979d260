use Rattle.std.proofs.Common.{rules}
use Rattle.std.proofs.lemmas.List.Elements.{All-push}
use Rattle.gix_graph_rows.specs.Kept.{AreIds}
use Rattle.gix_graph_rows.specs.declared.parts.Part.{Part}
use Rattle.gix_graph_rows.proofs.KnownBytes.{ids_none}
use Rattle.gix_graph_rows.proofs.parts.Parts.new.Goals as goal

pub loop-preserved : goal.loop-preserved
loop-preserved g c = λ s t.
    let none = ids_none s t c.new.result.items (search rules) in
    record { all = rw c.in_ok-push.ensures.items (All-push (λ (p : Part g.row.A.Denot). AreIds s t p.low p.ids.items) c.loop.parts.items _ (c.loop.invariant s t).all none) }
