mod Steps
mod Erased
pub mod Programs
