pub mod Rewritten
pub mod Merged
pub mod Elided
pub mod Bare
pub mod Steps
