pub mod PlainOccurrence
pub mod Wanted
