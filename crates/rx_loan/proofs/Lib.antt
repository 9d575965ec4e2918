pub mod Listing
pub mod Scoping
pub mod Forbidding
pub mod Walking
pub mod Fewest
pub mod Found
