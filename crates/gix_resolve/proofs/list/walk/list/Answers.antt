use Rattle.std.proofs.Common.{◌≡◌, sym, ap, subst, ◌∙◌, false, cond, ◌++◌, ◌∷◌, []}
use Rattle.gix_revwalk.specs.History.{is_one_of}
use Rattle.gix_revwalk.specs.Number.{place_in}
use Rattle.gix_merge_base.specs.PaintQueue.{id_at, ids_at}
use Rattle.gix_resolve.specs.ListWalk.{AreMarked}
use Rattle.gix_merge_base.proofs.Numbered.{named-id}
use Rattle.gix_resolve.proofs.ListMarks.{listed-mark, marked-push}
use Rattle.gix_resolve.proofs.list.walk.list.Goals as goal

pub returns-clause-marked : goal.returns-clause-marked
returns-clause-marked g c =
    subst (AreMarked c.set_mark.new.graph) (sym c.in-Ok.ensures.items)
    (marked-push c.args.graph.now c.set_mark.new.graph c.args.listed.now.items c.args.number _ c.requires.number c.requires.marked c.set_mark.ensures).0

pub returns-clause-added : goal.returns-clause-added
returns-clause-added g c =
    let old = c.args.graph.now in
    let xs = ids_at old c.args.listed.now.items in
    let id = id_at old (place_in c.args.number) in
    let mark = c.mark_of.ensures id (named-id old (place_in c.args.number) c.requires.number) in
    let lacks : is_one_of xs id ≡ false = sym (listed-mark old c.args.listed.now.items (place_in c.args.number) c.mark_of.result c.requires.marked mark) ∙ sym c.is_some.ensures ∙ c.if-is_some.false in
    ap (ids_at c.set_mark.new.graph) c.in-Ok.ensures.items
    ∙ (marked-push old c.set_mark.new.graph c.args.listed.now.items c.args.number _ c.requires.number c.requires.marked c.set_mark.ensures).1
    ∙ sym (ap (λ b. cond b xs (xs ++ id ∷ [])) lacks)
