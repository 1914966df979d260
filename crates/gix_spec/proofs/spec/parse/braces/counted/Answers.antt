use Rattle.std.proofs.Common.{◌≡◌, ◌&&◌, false, refl, sym, ◌∙◌}
use Rattle.std.proofs.lemmas.Bool.{eq-eqb}
use Rattle.gix_spec.specs.Braces.{is_special}
use Rattle.gix_spec.proofs.spec.parse.braces.counted.Goals as goal

pub returns-then-not-is_escaped : goal.returns-then-not-is_escaped
returns-then-not-is_escaped c =
    let plain : (is_special c.args.byte && c.args.escaping) ≡ false = sym c.is_escaped.ensures ∙ c.if-not-is_escaped.true in
    rw (eq-eqb c.args.byte c.args.mark c.if-byte-mark.true, plain) refl
