pub mod Closing
pub mod Filling
pub mod Listing
