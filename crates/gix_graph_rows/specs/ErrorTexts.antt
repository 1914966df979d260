-- The texts of what is wrong with a file.
use Rattle.std.specs.Prelude.{ℕ, List, codes}
use Rattle.gix_graph_rows.specs.declared.error.Damage.{Damage}
use Rattle.gix_graph_rows.specs.declared.error.Damage.TheVariants.{CutOff, Signature, Contents, ChunkPlace, ChunkSize, Fanout, ChainLine, Bases, Commits, Parent, EdgeEnd, Level}
use Rattle.gix_graph_rows.specs.declared.error.Feature.{Feature}
use Rattle.gix_graph_rows.specs.declared.error.Feature.TheVariants.{Version, Hash, NotUtf8}

-- The text that says how a file is damaged.
abbrev pub damage_text : Damage → List ℕ
damage_text CutOff = codes "file is cut off"
damage_text Signature = codes "not a commit-graph file"
damage_text Contents = codes "table of contents is damaged"
damage_text ChunkPlace = codes "chunk is out of order or outside the file"
damage_text ChunkSize = codes "chunk is missing or of the wrong size"
damage_text Fanout = codes "fanout table falls"
damage_text ChainLine = codes "line is not an id"
damage_text Bases = codes "base graphs are not those of the chain"
damage_text Commits = codes "too many commits"
damage_text Parent = codes "parent is not a commit of the graph"
damage_text EdgeEnd = codes "list of parents does not end"
damage_text Level = codes "level of a parent is not less"

-- The text that names what is not supported.
abbrev pub feature_text : Feature → List ℕ
feature_text Version = codes "version other than 1"
feature_text Hash = codes "hash other than SHA-1"
feature_text NotUtf8 = codes "path is not UTF-8"
