pub mod Filled
pub mod Saying
