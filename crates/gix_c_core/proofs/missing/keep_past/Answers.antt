use Rattle.std.proofs.Common.{rules, sym, ap, ◌∙◌}
use Rattle.std.proofs.lemmas.Fn.{filter_same}
use Rattle.gix_resolve.specs.ListMeaning.{past}
use Rattle.gix_c_core.proofs.missing.keep_past.Goals as goal

pub returns-in-Some : goal.returns-in-Some
returns-in-Some c = filter_same _ _ _ (λ x b f' s. search rules) _ _ c.retain.ensures.filtered ∙ ap (λ o. past o c.args.ids.now.items) (sym c.in-Some.is)
