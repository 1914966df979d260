use Rattle.std.proofs.Common.{◌∙◌}
use Rattle.gix_ref.specs.Known.{known}
use Rattle.gix_ref.proofs.Knows.{loose-grows, packed-grows, if_ok}
use Rattle.gix_ref.proofs.store.References.look_up.Goals as goal

pub returns-in-Some-clause-found : goal.returns-in-Some-clause-found
returns-in-Some-clause-found g c =
    if_ok c.loose_found.result (λ f is later grows.
    loose-grows (known c.read_loose.new.self) later c.args.name.now c.in-Some.content.now c.in_ok-read_loose.ensures.read c.in-Some.ensures grows ∙ is)
    c.loose_found.ensures

pub returns-clause-found : goal.returns-clause-found
returns-clause-found g c = λ later grows.
    packed-grows (known c.read_loose.new.self) (known c.read_packed.new.self) later c.args.name.now c.in_ok-read_loose.ensures.read c.in_default.ensures
    c.in_ok-read_packed.ensures.grows c.in_ok-read_packed.ensures.read grows ∙ c.packed_found.ensures
