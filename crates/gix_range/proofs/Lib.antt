pub mod Reaching
pub mod Keeping
pub mod Choosing
pub mod Frees
pub mod Gathering
pub mod Meeting
pub mod Lines
pub mod Hiding
