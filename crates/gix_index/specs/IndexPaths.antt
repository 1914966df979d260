-- Which paths an index may have (gitformat-index, "Index entry").
use Rattle.std.specs.Prelude.{ℕ, List, Bool, not, ◌==◌, ◌&&◌, nat_eq, length, map, codes}
use Rattle.std.specs.List.{list_all, slice_split}
use Rattle.std.specs.Char.{to_ascii_lowercase}
use Rattle.std.specs.Cmp.Lexicographic.{pointwise}
use Rattle.gix_index.specs.declared.entry.Entry.{Entry}

-- A part of a path, between its slashes, is not empty, and none of ".", ".." and, in letters of
-- either case, ".git".
abbrev pub is_part : List ℕ → Bool
is_part part =
    not (length part == 0)
    && not (pointwise nat_eq part (codes "."))
    && not (pointwise nat_eq part (codes ".."))
    && not (pointwise nat_eq (map to_ascii_lowercase part) (codes ".git"))

-- A path leads neither out of the working tree nor into the git folder.
unfoldable pub is_inside : List ℕ → Bool
is_inside path = list_all is_part (slice_split (λ b. b == 47) path)

-- The paths of all entries are inside.
abbrev pub are_inside : {A : Type 0} → List (Entry A) → Bool
are_inside es = list_all (λ e. is_inside e.path.items) es
