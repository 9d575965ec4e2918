pub mod Contexts
pub mod Functions
pub mod Answers
pub mod Passes
pub mod Front
pub mod Faults
pub mod Causes
