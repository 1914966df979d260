pub mod Cut
pub mod Ids
pub mod Trims
pub mod Changes
pub mod Told
pub mod Rising
pub mod Places
