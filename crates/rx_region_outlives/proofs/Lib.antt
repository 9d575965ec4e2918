mod Appending
mod Steps
pub mod ImpliedLemmas
mod TableLemmas
