pub mod NamesWords
pub mod NameTest
pub mod DeclaredNames
pub mod Pinning
pub mod NamedPlan
pub mod Words
