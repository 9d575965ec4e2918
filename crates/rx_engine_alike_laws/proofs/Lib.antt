pub mod Promised
pub mod Read
pub mod Same
pub mod Ways
pub mod Variables
pub mod Patterns
pub mod Giving
pub mod Units
pub mod Found
pub mod Leaving
pub mod Letting
pub mod Unmarked
pub mod Forms
pub mod Functions
mod Examples
