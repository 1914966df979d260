pub mod Knows
pub mod Leads
pub mod Rules
