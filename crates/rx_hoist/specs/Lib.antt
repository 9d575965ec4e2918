pub mod Runs
pub mod Sites
pub mod Levels
pub mod Parts
pub mod Limits
pub mod Hoisting
