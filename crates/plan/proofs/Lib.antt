pub mod Asking
pub mod Keeping
pub mod Ruling
pub mod Finding
pub mod Editing
pub mod Lifted
