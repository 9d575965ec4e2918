pub mod Ways
pub mod Deciding
mod Marking
mod Searching
mod Settling
pub mod Placing
