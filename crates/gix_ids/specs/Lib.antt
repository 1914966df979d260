pub mod TableBytes
pub mod TableForm
pub mod TableLookup
pub mod TableIds
pub mod TableFaultText
