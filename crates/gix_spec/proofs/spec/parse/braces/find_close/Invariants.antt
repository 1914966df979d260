use Rattle.std.proofs.Common.{◌≡◌, ℕ, ◌+◌, ◌<◌, ◌≤◌}
use Rattle.gix_spec.specs.Braces.{follows_escape, counted, has_escape}
use Rattle.gix_spec.specs.Opens.{IsLevel}
use Rattle.gix_spec.proofs.spec.parse.braces.find_close.Given as goal

-- so many braces are open, and the pair closes at no place so far
abbrev pub invariant-loop-place : goal.invariant-loop-place
invariant-loop-place l = record {
  escaping : l.escaping ≡ follows_escape l.text l.place;
  level : l.open + counted 125 l.text l.place ≡ counted 123 l.text l.place;
  escapes : l.escapes ≡ has_escape l.text l.place;
  small : l.open ≤ l.place;
  inside : 0 < l.place → 0 < l.open;
  none : (k : ℕ) → k < l.place → IsLevel l.text k → ⊥;
}
