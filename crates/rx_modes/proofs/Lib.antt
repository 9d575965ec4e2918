pub mod Typing
pub mod Living
pub mod Using
pub mod Passing
pub mod Aliasing
pub mod Answering
pub mod Knowing
