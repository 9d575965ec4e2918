mod Lookups
mod Entering
mod Drops
pub mod Deciding
