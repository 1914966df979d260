-- What is wrong with a commit-graph file, by the numbers that C has for it.
use Rattle.std.specs.Prelude.{◌≡◌, ◌⊎◌, ℕ, List}
use Rattle.gix_commitgraph.specs.FileFormat.{IsCommitGraph}
use Rattle.gix_commitgraph.specs.FileRefused.{IsRefused}
use Rattle.gix_commitgraph.specs.declared.commit_graph.fault.OpenFault.{OpenFault}
use Rattle.gix_commitgraph.specs.declared.commit_graph.fault.OpenFault.TheVariants.{TooShort, Signature, Version, Hash, BaseGraphs, NoChunkId, Repeated, ChunkPlace, TableEnd, NoFanout, NoIds, NoRows, ChunkSize, Fanout, IdOrder, IdPlace, Parent, EdgeParent, EdgeEnd, EdgeOrder}

-- The number of a fault (gitformat-commit-graph, "File Layout").
abbrev pub graph_fault_number : OpenFault → ℕ
graph_fault_number TooShort = 1
graph_fault_number Signature = 2
graph_fault_number Version = 3
graph_fault_number Hash = 4
graph_fault_number BaseGraphs = 5
graph_fault_number NoChunkId = 6
graph_fault_number Repeated = 7
graph_fault_number ChunkPlace = 8
graph_fault_number TableEnd = 9
graph_fault_number NoFanout = 10
graph_fault_number NoIds = 11
graph_fault_number NoRows = 12
graph_fault_number ChunkSize = 13
graph_fault_number Fanout = 14
graph_fault_number IdOrder = 15
graph_fault_number IdPlace = 16
graph_fault_number Parent = 17
graph_fault_number EdgeParent = 18
graph_fault_number EdgeEnd = 19
graph_fault_number EdgeOrder = 20

-- The bytes are a commit-graph file, and n is 0, or they have the fault with the number n.
abbrev pub IsGraphFault : List ℕ → ℕ → Type 0
IsGraphFault bytes n =
    ((n ≡ 0) × IsCommitGraph bytes) ⊎ ((fault : OpenFault) × (n ≡ graph_fault_number fault) × IsRefused bytes fault)
