pub mod CursorLemmas
pub mod Numbered
pub mod Next
pub mod References
pub mod Tuples
pub mod Listed
pub mod Stating
