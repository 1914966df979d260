pub mod Same
pub mod SameRanges
pub mod SameBases
pub mod SameDescriptions
pub mod Holds
pub mod Sound
