pub mod Fresh
pub mod Matched
pub mod Plain
