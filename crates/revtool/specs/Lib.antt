pub mod Reads
pub mod Fields
pub mod Left
pub mod Numbers
pub mod Recorder
