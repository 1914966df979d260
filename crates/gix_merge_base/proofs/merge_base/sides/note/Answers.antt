use Rattle.std.proofs.Common.{◌≡◌, ap, sym, subst, []}
use Rattle.std.specs.Prelude.{OnOk}
use Rattle.std.specs.Option.{unwrap_or}
use Rattle.gix_revwalk.specs.Walks.{added}
use Rattle.gix_merge_base.specs.PaintQueue.{id_of}
use Rattle.gix_merge_base.proofs.merge_base.sides.note.Goals as goal

pub returns : goal.returns
returns g c =
    let is : id_of c.args.graph.now c.args.number ≡ c.id_of.result = ap (λ o. unwrap_or o (record { 0 = [] })) c.id_of.ensures.named in
    subst (λ z. OnOk c.add.result (c.add.new.self ≡ added c.args.seen.now z)) (sym is) c.add.ensures
