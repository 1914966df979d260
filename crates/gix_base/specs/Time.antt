-- The order of moments.
use Rattle.std.specs.declared.cmp.Ordering.{Ordering}
use Rattle.std.specs.Ordering.{int_cmp, ordering_then}
use Rattle.gix_base.specs.declared.date.Time.{Time}

-- The order of moments: by seconds, then by offset.
abbrev pub time_order : Time → Time → Ordering
time_order a b = ordering_then (int_cmp a.seconds b.seconds) (int_cmp a.offset b.offset)
