pub mod Ranges
pub mod Independent
pub mod Octopus
pub mod Lines
