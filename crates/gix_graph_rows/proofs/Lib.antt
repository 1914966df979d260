pub mod RowAlone
pub mod KnownBytes
pub mod SameFiles
pub mod NamedParents
pub mod FrontChunks
