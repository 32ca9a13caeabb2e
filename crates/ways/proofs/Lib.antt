pub mod Found
pub mod Cut
pub mod Counted
pub mod Rows
pub mod Bests
pub mod Back
pub mod Walks
pub mod Whole
