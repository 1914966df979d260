-- What the values of the program say of a reference.
use Rattle.gix_ref_text.specs.Loose.{Says, HasId, LeadsTo, IsGarbage}
use Rattle.std.specs.Prelude.{None}
use Rattle.std.specs.Option.{option_map}
use Rattle.gix_ref_text.specs.declared.packed.Packed.{Packed}
use Rattle.gix_ref_text.specs.declared.loose.Said.{Said}
use Rattle.gix_ref_text.specs.declared.loose.Said.TheVariants as loose

-- What a loose reference says.
abbrev pub said : Said → Says
said (loose.Id id) = HasId id.0 None
said (loose.LeadsTo name) = LeadsTo name.now
said loose.Garbage = IsGarbage

-- What a line of `packed-refs` says.
abbrev pub packed_said : Packed → Says
packed_said line = HasId line.id.0 (option_map (λ id. id.0) line.peeled)
