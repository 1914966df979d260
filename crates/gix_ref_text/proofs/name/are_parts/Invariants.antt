use Rattle.std.proofs.Common.{◌≡◌, ◌≤◌, ◌+◌, length}
use Rattle.std.specs.List.{list_all}
use Rattle.gix_ref_text.specs.Lines.{parts}
use Rattle.gix_ref_text.specs.Names.{is_part}
use Rattle.gix_ref_text.proofs.name.are_parts.Given as goal

abbrev pub invariant-loop : goal.invariant-loop
invariant-loop l = record {
  same : list_all is_part (parts 47 l.name) ≡ list_all is_part (parts 47 l.rest);
  shorter : length l.rest + l.counter ≤ length l.name;
}
