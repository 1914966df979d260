use Rattle.std.proofs.Common.{◌≡◌, ◌∙◌, sym, ap, Some, None, []}
use Rattle.std.specs.Option.{option_map, unwrap_or}
use Rattle.std.specs.Cow.{cow_slice_items}
use Rattle.gix_describe.specs.Described.{name_at}
use Rattle.gix_describe.specs.Outcomes.{names_of}
use Rattle.gix_describe.proofs.NamesFound.{name_at-names_of}
use Rattle.gix_describe.proofs.describe.walk.name_bytes.Goals as goal

pub returns-in-Some : goal.returns-in-Some
returns-in-Some g c =
    let at : name_at (names_of c.args.names.now.entries) c.args.id.now ≡ Some (cow_slice_items c.in-Some.name.now) =
    name_at-names_of c.args.names.now.entries c.args.id.now ∙ ap (option_map cow_slice_items) (sym c.in-Some.ensures.value) in
    c.as_slice.ensures.value ∙ sym (ap (λ o. unwrap_or o []) at)

pub returns-in-None : goal.returns-in-None
returns-in-None g c =
    let at : name_at (names_of c.args.names.now.entries) c.args.id.now ≡ None =
    name_at-names_of c.args.names.now.entries c.args.id.now ∙ ap (option_map cow_slice_items) (sym c.in-None.ensures.value) in
    sym (ap (λ o. unwrap_or o []) at)
