pub mod Places
pub mod Numbers
pub mod Headers
pub mod Parents
pub mod OneCommit
pub mod OneTag
pub mod Determined
