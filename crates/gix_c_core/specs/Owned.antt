-- What a caller in C owns of a handle.
use Rattle.std.specs.Prelude.{◌≡◌, [], Option, Some, None}
use base.Fml.{Fml, ftrue}
use denote.RawPtr.{Ptr}
use Rattle.core.specs.Ptr.{if_non_null}
use Rattle.std.specs.Box.Ownership.{box_owns}
use Rattle.std.specs.Global.{Global}
use Rattle.std_heap.specs.contracts.GlobalAllocator.TheImpl.{ghosts}
use Rattle.gix_base.specs.declared.hash.ObjectId.{ObjectId}
use Rattle.gix_revwalk.specs.History.{entry_at}
use Rattle.gix_c_core.specs.Behind.{commits_of}
use Rattle.gix_c_core.specs.Missing.{IsNoted}
use Rattle.gix_c_core.specs.declared.extent.Extent.TheVariants.{Complete}
use Rattle.gix_c_core.specs.declared.handle.Handle.{Handle}
use Rattle.gix_c_core.specs.contracts.handle.Handle.{the_row}

-- The handle h at p, with what it owns, and the right to free its block.
abbrev pub owns_handle : Global → Ptr → Handle → Fml
owns_handle alloc p h = box_owns (ghosts.dealloc_token alloc) the_row p h

-- The handle h at p, unless p is null.
abbrev pub owns_unless_null : Global → Ptr → Handle → Fml
owns_unless_null alloc p h = if_non_null p (owns_handle alloc p h)

-- The handle at p, if there is one.
abbrev pub owns_some : Global → Ptr → Option Handle → Fml
owns_some alloc p None = ftrue
owns_some alloc p (Some h) = owns_handle alloc p h

-- There is a handle. Its history is complete and has no commit, it notes parents (IsNoted), it has
-- no ref names, and abbreviated object names stand for no id.
abbrev pub IsNew : Option Handle → Type 0
IsNew o =
    (h : Handle) × (o ≡ Some h) × ((id : ObjectId) → entry_at (commits_of h) id ≡ None) × IsNoted h
    × (h.value.table.names.entries ≡ []) × (h.value.table.ids.keys ≡ []) × (h.value.extent ≡ Complete)
