pub mod Refused
pub mod Rising
