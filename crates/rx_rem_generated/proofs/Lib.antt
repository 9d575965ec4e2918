pub mod Lengths
pub mod Growth
