pub mod PlainActs
pub mod Matching
