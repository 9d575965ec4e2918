pub mod NumberedNodes
pub mod Counting
