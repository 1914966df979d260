pub mod Lists
pub mod Times
pub mod Heaps
pub mod Meeting
pub mod Showing
pub mod OrderLawProofs
