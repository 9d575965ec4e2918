pub mod Rounds
pub mod Rows
pub mod Spreading
pub mod Telling
pub mod Working
