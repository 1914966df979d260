pub mod Beyonds
pub mod Grown
pub mod Settled
pub mod Plain
pub mod Counted
