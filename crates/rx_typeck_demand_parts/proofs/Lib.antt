pub mod Dereferences
pub mod Counts
pub mod Later
pub mod Placed
