-- A handle after its history was lent.
use Rattle.std.specs.Borrow.{Lends, MutBor, Fml}
use Rattle.gix_c_core.specs.declared.handle.Handle.{Handle}
use Rattle.gix_c_core.specs.declared.history.History.{History}
use Rattle.gix_c_core.specs.contracts.history.History.{the_row as history_row}
use Rattle.gix_c_core.specs.contracts.handle.Handle.{the_row}

-- The handle h with the history w behind its pointer.
abbrev pub with_value : Handle → History → Handle
with_value h w = record h { value = w }

-- The handle h ends with the last history behind r.
abbrev pub lends_value : MutBor Handle → MutBor History → Fml
lends_value h r = Lends the_row history_row h r (with_value h.now)
