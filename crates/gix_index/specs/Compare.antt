-- How an entry and what the system says of its file compare (git-update-index, "Notes"; git-config,
-- "core.fileMode", "core.trustctime" and "core.checkStat").
use Rattle.std.specs.Prelude.{ℕ, ◌/◌, ◌%◌, ◌==◌, ◌&&◌, ◌||◌, not, Bool}
use Rattle.gix_index.specs.declared.entry.Stat.{Stat}
use Rattle.gix_index.specs.declared.status.Status.{Status}
use Rattle.gix_index.specs.declared.compare.Checks.{Checks}

-- The file is of the kind that the mode says: a file or a symbolic link. If modes are compared, its
-- owner may execute it exactly if the mode of a file says so.
unfoldable pub has_kind : ℕ → Status → Checks → Bool
has_kind mode f c =
    (mode / 4096 == f.mode / 4096)
    && (not c.mode || not (mode / 4096 == 8) || (mode / 64 % 2 == f.mode / 64 % 2))

-- A size was noted, and the file has another one.
unfoldable pub has_other_size : Stat → Status → Bool
has_other_size s f = not (s.size == 0) && not (s.size == f.size)

-- The size and the mtime are as noted. If c.owner is set, so are owner, group and inode, and the
-- ctime as well if c.ctime is set.
unfoldable pub is_as_noted : Stat → Status → Checks → Bool
is_as_noted s f c =
    (s.size == f.size)
    && (s.mtime == f.mtime)
    && (not c.owner || not c.ctime || (s.ctime == f.ctime))
    && (not c.owner || ((s.uid == f.uid) && (s.gid == f.gid) && (s.ino == f.ino)))

-- The file is of the kind of its entry, and has no other size than the one noted.
unfoldable pub may_be_same : Stat → ℕ → Status → Checks → Bool
may_be_same s mode f c = has_kind mode f c && not (has_other_size s f)
