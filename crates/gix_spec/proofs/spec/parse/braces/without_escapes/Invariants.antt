use Rattle.std.proofs.Common.{◌≡◌, ◌+◌}
use Rattle.gix_spec.specs.Braces.{follows_escape, meant_of}
use Rattle.gix_spec.proofs.spec.parse.braces.without_escapes.Given as goal

abbrev pub invariant-loop-place : goal.invariant-loop-place
invariant-loop-place g l = record {
  escaping : l.escaping ≡ follows_escape l.text (l.place + 1);
  meant : l.meant.items ≡ meant_of l.text l.place;
}
