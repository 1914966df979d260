-- What the parser remembers in addition to the text that it reads.
use Rattle.std.specs.Prelude.{ℕ, List, codes, Option, Some, None, option_map, Bool, true, false}
use Rattle.gix_base.specs.Prefix.{prefix_text}
use Rattle.gix_base.specs.declared.date.Time.{Time}
use Rattle.gix_spec.specs.declared.spec.parse.context.Anchor.{Anchor}
use Rattle.gix_spec.specs.declared.spec.parse.context.Anchor.TheVariants.{Head, Reference, ByPrefix}
use Rattle.gix_spec.specs.declared.spec.parse.context.Context.{Context as Kept}
use Rattle.gix_spec.specs.declared.spec.parse.Error.{Error}
use Rattle.gix_spec.specs.Call.{Call, Hint, find_ref, prefix, hint_of}

-- The moment from which relative dates count; the latest accepted prefix or reference call, called
-- the anchor; and whether this revision's own name was accepted as a prefix.
pub record Context : Type 0 where
  pub now : Time
  pub anchor : Option Call
  pub own_prefix : Bool

-- At the start of a text, no call was accepted yet.
abbrev pub start : (now : Time) → Context
start now = record { now = now; anchor = None; own_prefix = false }

-- The context m after the call for the ref name was accepted.
abbrev pub after_reference : Context → (name : List ℕ) → Context
after_reference m name = record { now = m.now; anchor = Some (find_ref name); own_prefix = false }

-- The context m after the call for a prefix with these digits and this hint was accepted.
abbrev pub after_prefix : Context → (digits : List ℕ) → Option Hint → Context
after_prefix m digits hint = record { now = m.now; anchor = Some (prefix digits hint); own_prefix = true }

-- The context at the start of the second revision of a range, which has no name yet.
abbrev pub next_revision : Context → Context
next_revision m = record { now = m.now; anchor = m.anchor; own_prefix = false }

-- The name of HEAD.
abbrev pub HEAD : List ℕ
HEAD = codes "HEAD"

-- The call that the code's anchor stands for.
abbrev pub call_of : Anchor → Call
call_of Head = find_ref HEAD
call_of (Reference name) = find_ref name.now
call_of (ByPrefix p hint) = prefix (prefix_text p) (option_map hint_of hint)

-- The context that the code keeps.
abbrev pub context_of : Kept → Context
context_of kept = record { now = kept.now; anchor = option_map call_of kept.anchor; own_prefix = kept.own_prefix }

-- What the code keeps, with the reason why the parse has stopped.
abbrev pub stopped : Kept → Error → Kept
stopped kept e = record { now = kept.now; anchor = kept.anchor; own_prefix = kept.own_prefix; error = Some e }
