pub mod Least
pub mod Certified
pub mod Making
