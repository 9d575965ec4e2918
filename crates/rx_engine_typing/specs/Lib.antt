pub mod Expecting
pub mod Renumbered
pub mod Scoped
pub mod Counted
pub mod Corresponding
