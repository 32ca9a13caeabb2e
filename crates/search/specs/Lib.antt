pub mod Marks
pub mod Index
pub mod Allowed
pub mod Frontier
pub mod Steps
pub mod Searched
