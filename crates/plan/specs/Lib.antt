pub mod Limits
pub mod Ducts
pub mod Refusals
pub mod Plans
pub mod Rules
pub mod Fields
pub mod Edits
