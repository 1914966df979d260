pub mod ErrorTexts
pub mod RowForm
pub mod RowLaws
pub mod FanoutForm
pub mod FrontForm
pub mod ChainRows
pub mod Kept
pub mod FilesRead
