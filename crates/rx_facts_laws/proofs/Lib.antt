pub mod Arriving
pub mod Living
pub mod Excluding
pub mod Typing
mod Tables
mod OfTables
