pub mod Placed
pub mod Stepping
pub mod Admitting
pub mod Arrays
pub mod Trip
pub mod Exact
