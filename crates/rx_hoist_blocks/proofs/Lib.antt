pub mod Adding
pub mod Blocks
pub mod Children
pub mod Parts
pub mod Places
pub mod Forms
pub mod Functions
