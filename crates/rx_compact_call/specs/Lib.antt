pub mod Named
pub mod Shortened
pub mod Making
