pub mod Determined
pub mod Sound
