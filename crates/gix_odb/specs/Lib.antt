pub mod Stores
pub mod Refusals
pub mod ErrorTexts
