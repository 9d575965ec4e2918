pub mod ToldLemmas
pub mod Looked
