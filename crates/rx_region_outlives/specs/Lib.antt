pub mod Related
pub mod Implied
