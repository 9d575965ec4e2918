pub mod Shapes
pub mod Sets
pub mod Verified
pub mod Verdicts
pub mod Parts
