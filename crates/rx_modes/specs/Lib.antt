pub mod Told
pub mod Answer
