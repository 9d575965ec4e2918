pub mod Scoping
pub mod Listing
