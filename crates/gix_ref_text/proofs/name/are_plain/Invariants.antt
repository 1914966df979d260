use Rattle.std.proofs.Common.{◌≡◌, drop}
use Rattle.std.specs.List.{list_all}
use Rattle.gix_ref_text.specs.Names.{is_plain}
use Rattle.gix_ref_text.proofs.name.are_plain.Given as goal

abbrev pub invariant-loop-byte : goal.invariant-loop-byte
invariant-loop-byte l = list_all is_plain l.name ≡ list_all is_plain (drop l.byte-index l.name)
