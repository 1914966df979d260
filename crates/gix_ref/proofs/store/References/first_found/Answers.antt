use Rattle.std.proofs.Common.{◌≡◌, ◌+◌, ◌++◌, [], ◌∷◌, length, ap, sym, ◌∙◌, arith}
use Rattle.std.specs.Prelude.{map}
use Rattle.std.specs.Option.{option_map, option_to_list}
use Rattle.std.proofs.lemmas.List.{nil_from_length, length-append}
use Rattle.gix_ref_text.specs.Leads.{name_leads}
use Rattle.gix_ref_text.specs.Short.{first_found, meant}
use Rattle.gix_ref.proofs.Knows.{grows-trans}
use Rattle.gix_ref.proofs.Rules.{last-before}
use Rattle.gix_ref.proofs.store.References.first_found.Goals as goal

pub loop-preserved : goal.loop-preserved
loop-preserved g c =
    let items = c.pop.ensures.items ∙ ap (λ r. c.pop.new.self.items ++ option_to_list r) c.in-Some.is in
    let less : length c.loop.names.items ≡ length c.pop.new.self.items + 1 = ap (λ ns. length ns) items ∙ length-append c.pop.new.self.items (c.in-Some.name ∷ []) in (
      omega (arith, c.loop.invariant.0, less),
      λ later grows.
          c.loop.invariant.1 later (grows-trans _ _ _ c.in_ok-found.ensures.grows grows)
          ∙ last-before (λ n. n.items) c.loop.names.items c.pop.new.self.items c.in-Some.name (λ full. name_leads later full) (option_map meant c.loop.found) items
          ∙ ap (λ o. first_found (map (λ n. n.items) c.pop.new.self.items) (λ full. name_leads later full) o) (c.in_ok-found.ensures.found later grows),
    )

pub returns-in_default : goal.returns-in_default
returns-in_default g c = λ later grows.
    c.loop.invariant.1 later grows
    ∙ ap (λ ns. first_found (map (λ n. n.items) ns) (λ full. name_leads later full) (option_map meant c.loop.found)) (nil_from_length _ (sym c.loop.names.ok.0 ∙ c.in_default.ensures.cases.0))

pub returns : goal.returns
returns g c = λ later grows.
    let none : length c.loop.names.items ≡ 0 = omega (arith, c.loop.invariant.0, c.loop-test.false, c.loop.auto.counter-end) in
    c.loop.invariant.1 later grows
    ∙ ap (λ ns. first_found (map (λ n. n.items) ns) (λ full. name_leads later full) (option_map meant c.loop.found)) (nil_from_length _ none)
