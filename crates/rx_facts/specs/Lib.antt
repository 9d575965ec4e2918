pub mod Passing
pub mod Functions
pub mod Answers
pub mod Same
