pub mod Turns
pub mod CursorLemmas
pub mod NumberLemmas
pub mod ListSteps
pub mod Placed
