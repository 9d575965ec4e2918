pub mod Loops
pub mod Decided
pub mod RunMeans
