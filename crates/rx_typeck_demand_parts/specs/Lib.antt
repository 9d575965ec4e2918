pub mod Walks
pub mod Places
pub mod Placing
pub mod Matching
