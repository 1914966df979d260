use Rattle.std.proofs.Common.{◌≡◌, suc, ◌-◌, List, [], take, slice_get, Some, None, refl, sym, subst, ◌∙◌, arith}
use Rattle.std.specs.List.{AllByRecursion, filter}
use Rattle.std.specs.declared.cmp.Ordering.TheVariants.{Less}
use Rattle.std.proofs.lemmas.Option.{slice_get-map, slice_get-get_or}
use Rattle.gix_base.specs.Hash.{id_order}
use Rattle.gix_base.specs.Prefix.{prefix_text}
use Rattle.gix_base.specs.declared.hash.ObjectId.{ObjectId}
use Rattle.gix_revwalk.specs.History.{Entry}
use Rattle.gix_revision.specs.FileCommits.{history_in}
use Rattle.gix_revision.specs.FileIds.{ids_in}
use Rattle.gix_resolve.specs.Steps.{begins_with}
use Rattle.gix_resolve.proofs.Beginnings.{none_up_to, last_at}
use Rattle.gix_resolve.proofs.lookup.file.none_before.Goals as goal

pub returns-then-place-eq0 : goal.returns-then-place-eq0
returns-then-place-eq0 g c = rw c.if-place-eq0.true refl

pub returns-in-Some : goal.returns-in-Some
returns-in-Some g c =
    let digits = prefix_text c.args.prefix in
    let start = c.args.start in
    let ids : List ObjectId = ids_in c.args.file.now in
    let k = c.args.place - 1 in
    let w = c.in-Some.below in
    let at : slice_get ids k ≡ Some w = slice_get-map (λ (e : ObjectId × Entry). e.0) (history_in c.args.file.now) k ∙ sym c.in-Some.ensures in
    let e : c.args.place ≡ suc k = omega arith in
    let Below : ObjectId → Type 0 = λ x. id_order x start ≡ Less in
    let below = subst (λ n. AllByRecursion Below (take n ids)) e c.requires.place.before in
    let none = none_up_to digits start c.requires.start w c.is_id.ensures (last_at Below k ids w at below) k ids at c.requires.rising in
    subst (λ n. filter (begins_with digits) (take n ids) ≡ []) (sym e) none

pub returns-in_default : goal.returns-in_default
returns-in_default g c =
    let ids : List ObjectId = ids_in c.args.file.now in
    let k = c.args.place - 1 in
    let none : slice_get ids k ≡ None = slice_get-map (λ (e : ObjectId × Entry). e.0) (history_in c.args.file.now) k ∙ sym c.in_default.ensures in
    let within = c.requires.place.within in
    let some = slice_get-get_or ids k c.args.start (omega arith) in
    let no : None ≡ Some _ = sym none ∙ some in
    cc
