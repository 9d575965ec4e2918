pub mod Held
pub mod Sizes
pub mod WellFormed
pub mod Variance
