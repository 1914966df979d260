pub mod Exact
pub mod Found
pub mod Line
pub mod Names
pub mod Reader
pub mod Word
