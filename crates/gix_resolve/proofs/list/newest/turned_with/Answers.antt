use Rattle.std.proofs.Common.{◌≡◌, refl, subst}
use Rattle.gix_revwalk.specs.Commit.{copied_entry}
use Rattle.gix_revwalk.specs.Number.{place_in}
use Rattle.gix_merge_base.specs.GenThenTime.{key_of}
use Rattle.gix_merge_base.specs.PaintQueue.{id_at}
use Rattle.gix_merge_base.proofs.Numbered.{named-id}
use Rattle.gix_resolve.specs.Newest.{turned_for}
use Rattle.gix_resolve.proofs.Newest.{turned_is}
use Rattle.gix_resolve.proofs.list.newest.turned_with.Goals as goal

pub returns : goal.returns
returns g c =
    let h = (g.S.Find.history c.args.graph.now.source) in
    let id = c.id_of.result in
    let called = c.id_of.ensures.named in
    let at = named-id c.args.graph.now (place_in c.args.number) c.requires in
    let same : id ≡ id_at c.args.graph.now (place_in c.args.number) = cc in
    subst (λ z. c.turned_by.result ≡ turned_for h z) same
    (turned_is h id (copied_entry c.value.result.now) (key_of c.value.result.now) c.turned_by.result c.turned_by.ensures (c.value.ensures.agrees id called) refl)
