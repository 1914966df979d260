pub mod Behind
pub mod Next
pub mod Places
pub mod Texts
pub mod Words
