pub mod Orders
pub mod Listed
pub mod Marks
pub mod Turns
