use Rattle.std.proofs.Common.{◌∙◌, sym, refl}
use Rattle.gix_date.specs.ShortDate.{short_date}
use Rattle.gix_date.proofs.date.short.read.Goals as goal

pub returns-then-not-is_shaped : goal.returns-then-not-is_shaped
unfolding short_date
returns-then-not-is_shaped c = rw (sym c.is_shaped.ensures.value ∙ c.if-not-is_shaped.true) refl

pub returns : goal.returns
unfolding short_date
returns c = rw (sym c.is_shaped.ensures.value ∙ c.if-not-is_shaped.false, c.midnight.ensures) refl
