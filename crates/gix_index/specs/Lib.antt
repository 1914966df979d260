pub mod IndexBytes
pub mod IndexEntry
pub mod IndexPaths
pub mod IndexForm
pub mod Compare
pub mod Clean
