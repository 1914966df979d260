use Rattle.std.proofs.Common.{◌≡◌, drop}
use Rattle.gix_ref_text.specs.Known.{first_read}
use Rattle.gix_ref.specs.Known.{reads_of}
use Rattle.gix_ref.proofs.store.References.reading.Given as goal

abbrev pub invariant-loop-reading : goal.invariant-loop-reading
invariant-loop-reading g l =
    first_read (reads_of l.self.readings.items) l.name ≡ first_read (reads_of (drop l.reading-index l.self.readings.items)) l.name
