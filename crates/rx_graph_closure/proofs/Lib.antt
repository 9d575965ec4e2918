pub mod Joining
pub mod Tables
pub mod Chunks
pub mod Listed
