-- Why calls fail.
use Rattle.std.specs.Prelude.{◌≡◌, ◌⊎◌, ℕ, List, codes, Bool, true, false, Result, Ok, Err}
use Rattle.gix_merge_base.specs.declared.merge_base.error.Error.{Error}
use Rattle.gix_merge_base.specs.declared.merge_base.error.Error.TheVariants.{Source, OutOfMemory}

-- The text is one of two: a commit, or a parent commit, could not be inserted into the graph.
abbrev pub IsInsertText : List ℕ → Type 0
IsInsertText text =
    (text ≡ codes "could not insert commit into graph")
    ⊎ (text ≡ codes "could not insert parent commit into graph")

-- A source error has one of the two texts of `IsInsertText`.
abbrev pub HasInsertText : Error → Type 0
HasInsertText (Source simple) = IsInsertText simple.0.now
HasInsertText OutOfMemory = Unit {0}

-- The call returned the source error.
abbrev pub is_source_fault : {T : Type 0} → Result T Error → Bool
is_source_fault (Ok x) = false
is_source_fault (Err (Source simple)) = true
is_source_fault (Err OutOfMemory) = false
