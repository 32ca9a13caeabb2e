pub mod Words
pub mod Format
pub mod Reading
pub mod Loading
pub mod Saving
pub mod Files
