pub mod Counts
pub mod Ways
pub mod Arms
pub mod Members
pub mod Depths
pub mod Turns
