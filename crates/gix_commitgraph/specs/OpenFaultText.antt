-- The text that a fault of opening a file prints.
use Rattle.std.specs.Prelude.{ℕ, List, codes}
use Rattle.gix_commitgraph.specs.declared.commit_graph.fault.OpenFault.{OpenFault}
use Rattle.gix_commitgraph.specs.declared.commit_graph.fault.OpenFault.TheVariants.{TooShort, Signature, Version, Hash, BaseGraphs, NoChunkId, Repeated, ChunkPlace, TableEnd, NoFanout, NoIds, NoRows, ChunkSize, Fanout, IdOrder, IdPlace, Parent, EdgeParent, EdgeEnd, EdgeOrder}

-- The text that a fault prints.
abbrev pub open_fault_text : OpenFault → List ℕ
open_fault_text TooShort = codes "the file is too short"
open_fault_text Signature = codes "no commit-graph file"
open_fault_text Version = codes "a version other than 1"
open_fault_text Hash = codes "a hash other than SHA-1"
open_fault_text BaseGraphs = codes "a part of a chain of commit-graphs"
open_fault_text NoChunkId = codes "a row of the table of contents without a chunk id"
open_fault_text Repeated = codes "two chunks with one id"
open_fault_text ChunkPlace = codes "chunks out of order or outside the file"
open_fault_text TableEnd = codes "a table of contents without an end"
open_fault_text NoFanout = codes "no chunk OIDF"
open_fault_text NoIds = codes "no chunk OIDL"
open_fault_text NoRows = codes "no chunk CDAT"
open_fault_text ChunkSize = codes "a chunk of the wrong size"
open_fault_text Fanout = codes "a fanout that falls"
open_fault_text IdOrder = codes "ids that do not rise"
open_fault_text IdPlace = codes "an id outside its fanout"
open_fault_text Parent = codes "a parent that is no commit of the file"
open_fault_text EdgeParent = codes "an extra edge to no commit of the file"
open_fault_text EdgeEnd = codes "extra edges without an end"
open_fault_text EdgeOrder = codes "lists of extra edges that overlap or are out of order"
