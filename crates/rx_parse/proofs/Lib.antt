pub mod Places
pub mod Whole
pub mod Causes
pub mod OnePlace
