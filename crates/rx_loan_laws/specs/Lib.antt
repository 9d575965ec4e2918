pub mod ScopesOnWalks
pub mod Borrows
