use Rattle.std.proofs.Common.{◌==◌, ◌∙◌, ap, sym}
use Rattle.std.proofs.lemmas.List.{length-map}
use Rattle.gix_describe.specs.Queued.{entry_of}
use Rattle.gix_describe.proofs.Queued.{not_empty}
use Rattle.gix_describe.proofs.describe.queue.Queue.is_empty.Goals as goal

pub returns-in-Some : goal.returns-in-Some
returns-in-Some g c = rw (← c.self.view_is, c.in-Some.is) (not_empty (entry_of c.in-Some.field-0) _)

pub returns : goal.returns
returns g c = rw (← c.self.view_is, c.in_default.is) (c.is_empty.ensures ∙ ap (λ n. n == 0) (sym (length-map c.self.inside.places entry_of)))
