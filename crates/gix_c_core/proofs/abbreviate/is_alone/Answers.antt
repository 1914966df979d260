use Rattle.std.proofs.Common.{◌≡◌, ap, sym, ◌∙◌}
use Rattle.gix_base.specs.Prefix.{prefix_text}
use Rattle.gix_resolve.specs.Found.{found_in}
use Rattle.gix_resolve.specs.Steps.{begins_with}
use Rattle.gix_c_core.specs.Abbreviated.{is_only}
use Rattle.gix_c_core.proofs.Fronts.{alone-by}
use Rattle.gix_c_core.proofs.abbreviate.is_alone.Goals as goal

pub returns : goal.returns
returns c =
    let found = alone-by (begins_with (prefix_text c.prefix_of.result)) c.args.ids.now.keys c.args.id c.lookup_prefix.ensures.once in
    let is : c.is_only.result ≡ is_only (found_in _) c.args.id = c.is_only.ensures ∙ ap (λ f. is_only f c.args.id) c.lookup_prefix.ensures.found in
    rw (is, sym c.prefix_of.ensures) found
