mod Slots
mod Pieces
mod Times
mod Counting
mod Once
pub mod Singles
