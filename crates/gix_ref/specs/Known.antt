-- What the program knows of references after files were read.
use Rattle.std.specs.Prelude.{List, [], ◌∷◌}
use Rattle.std.specs.Option.{option_map}
use Rattle.gix_ref_text.specs.Known.{Read, Known}
use Rattle.gix_ref.specs.declared.store.Reading.{Reading}
use Rattle.gix_ref.specs.declared.store.References.{References}

-- What a reading of the program stands for.
abbrev pub read_of : {A : Type 0} → Reading A → Read
read_of r = record { name = r.name.items; content = option_map (λ v. v.items) r.content }

-- What a list of readings stands for.
abbrev pub reads_of : {A : Type 0} → List (Reading A) → List Read
reads_of [] = []
reads_of (r ∷ rs) = read_of r ∷ reads_of rs

-- What the program knows of references.
abbrev pub known : {F O A : Type 0} → References F O A → Known
known s = record { loose = reads_of s.readings.items; packed = option_map (λ p. p.bytes.items) s.packed }
