pub mod Ways
pub mod Best
pub mod Rows
pub mod Theorems
pub mod Pits
pub mod Worked
