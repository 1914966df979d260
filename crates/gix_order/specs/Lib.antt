pub mod Orders
pub mod OrderLaws
pub mod Counts
pub mod Fronts
pub mod Walks
