use Rattle.std.proofs.Common.{ap, ◌∙◌, ℕ}
use Rattle.std.specs.Option.{unwrap_or}
use Rattle.gix_revwalk.specs.Number.{place_in}
use Rattle.gix_merge_base.specs.PaintQueue.{no_mark}
use Rattle.gix_merge_base.proofs.Numbered.{named-id}
use Rattle.gix_merge_base.proofs.merge_base.hand.mark_of.Goals as goal

pub returns-in-None : goal.returns-in-None
returns-in-None g c =
    ap (λ (k : ℕ). record { marks = record { 0 = k }; queued = 0 }) (c.empty.ensures tt)
    ∙ ap (λ o. unwrap_or o no_mark) (c.in-None.ensures _ (named-id c.args.graph.now (place_in c.args.number) c.requires))

pub returns-in-Some : goal.returns-in-Some
returns-in-Some g c = ap (λ o. unwrap_or o no_mark) (c.in-Some.ensures _ (named-id c.args.graph.now (place_in c.args.number) c.requires))
