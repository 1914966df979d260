-- The files of a chain, by what was read of their fronts.
use Rattle.std.specs.Prelude.{ℕ, List, map}
use Rattle.gix_files.specs.declared.Opened.{Ghosts}
use Rattle.gix_graph_rows.specs.ChainRows.{Said, layout_from}
use Rattle.gix_graph_rows.specs.declared.layer.Layer.{Layer}

-- The content of an open file, and its layout.
abbrev pub said_by : {O A : Type 0} {G : Ghosts O} → Layer O A G → Said
said_by {G} l = record { bytes = G.content l.source.file; layout = layout_from l.layout }

-- The contents of open files.
abbrev pub contents_of : {O A : Type 0} {G : Ghosts O} → List (Layer O A G) → List (List ℕ)
contents_of {G} layers = map (λ l. G.content l.source.file) layers

-- The contents of open files, and their layouts.
abbrev pub files_of : {O A : Type 0} {G : Ghosts O} → List (Layer O A G) → List Said
files_of layers = map said_by layers
