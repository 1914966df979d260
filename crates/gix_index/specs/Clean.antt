-- When the files of a working tree are those of a commit (git-diff-index).
use Rattle.std.specs.Prelude.{List, [], ◌∷◌, Bool, true, false, ◌&&◌, ◌==◌, cond, nat_eq}
use Rattle.std.specs.Cmp.Lexicographic.{pointwise}
use Rattle.gix_revwalk.specs.History.{same_id}
use Rattle.gix_index.specs.declared.entry.Entry.{Entry}
use Rattle.gix_index.specs.declared.tree.Listed.{Listed}
use Rattle.gix_index.specs.declared.look.Look.{Look}
use Rattle.gix_index.specs.declared.look.Look.TheVariants.{Kept, Changed, Missing, Undecided}
use Rattle.gix_index.specs.declared.clean.Looked.{Looked}

-- An entry has the path, the mode and the object of a file of the commit.
abbrev pub is_file : {A B : Type 0} → Entry A → Listed B → Bool
is_file e f = pointwise nat_eq e.path.items f.path.items && e.mode == f.mode && same_id e.id f.id

-- The file of an entry is as the entry has it.
abbrev pub is_kept : Look → Bool
is_kept Kept = true
is_kept Changed = false
is_kept Missing = false
is_kept Undecided = false

-- The file of an entry is missing.
abbrev pub is_missing : Look → Bool
is_missing Kept = false
is_missing Changed = false
is_missing Missing = true
is_missing Undecided = false

-- The entries whose files are not missing.
abbrev pub present : {A : Type 0} → List (Looked A) → List (Looked A)
present [] = []
present (l ∷ ls) = cond (is_missing l.look) (present ls) (l ∷ present ls)

-- The file of an entry is kept, and it is this file of the commit.
abbrev pub is_kept_file : {A B : Type 0} → Looked A → Listed B → Bool
is_kept_file l f = is_kept l.look && is_file l.entry.now f

-- The files of the commit are, one by one, those of the entries whose files are not missing. Each
-- of these files is as its entry has it.
abbrev pub is_clean : {A B : Type 0} → List (Looked A) → List (Listed B) → Bool
is_clean looked files = pointwise is_kept_file (present looked) files
