pub mod Contained
pub mod Answered
pub mod Counted
pub mod Early
