pub mod Order
pub mod Fanned
pub mod Gaps
pub mod Rows
pub mod Faults
