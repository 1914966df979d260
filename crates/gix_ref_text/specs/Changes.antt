-- What the entries of a reflog say: git-reflog; gitrevisions, `<refname>@{<n>}`.
use Rattle.std.specs.Prelude.{ℕ, zero, suc, List, [], ◌∷◌, Bool, ◌==◌, ◌-◌, cond, Option, None, Some, take, length}
use Rattle.std.specs.List.{list_all}
use Rattle.gix_ref_text.specs.declared.log.LogEntry.{LogEntry}

-- A byte is zero.
abbrev pub is_zero : ℕ → Bool
is_zero b = b == 0

-- The bytes of an id are all zero: the reference was not there.
abbrev pub is_null : List ℕ → Bool
is_null id = list_all is_zero id

-- The first of two ids, if it is there. Otherwise the second.
abbrev pub first_some : Option (List ℕ) → Option (List ℕ) → Option (List ℕ)
first_some None other = other
first_some (Some id) other = Some id

-- The old id of the last entry whose old id does not have only zeros. The oldest entry comes first.
abbrev pub last_old : {A : Type 0} → List (LogEntry A) → Option (List ℕ)
last_old [] = None
last_old (e ∷ es) = first_some (last_old es) (cond (is_null e.old.0) None (Some e.old.0))

-- The new id of the last entry.
abbrev pub last_new : {A : Type 0} → List (LogEntry A) → Option (List ℕ)
last_new [] = None
last_new (e ∷ es) = first_some (last_new es) (Some e.new.0)

-- The id that a reference had n changes ago (gitrevisions, `<refname>@{<n>}`). For 0 it is the
-- newest entry's new id. Otherwise it is the old id of the nth newest entry, or of the next older
-- one whose old id does not have only zeros.
abbrev pub changes_ago : {A : Type 0} → ℕ → List (LogEntry A) → Option (List ℕ)
changes_ago zero entries = last_new entries
changes_ago (suc n) entries = last_old (take (length entries - n) entries)
