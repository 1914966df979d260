pub mod Origins
pub mod Grown
pub mod Tries
pub mod Levels
pub mod Waiting
pub mod HistoryLaws
pub mod Whole
