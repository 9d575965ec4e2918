pub mod Passing
mod Typings
pub mod Positions
pub mod Lifetimes
pub mod Settling
mod Telling
