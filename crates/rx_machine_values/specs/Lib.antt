pub mod PlainMemory
pub mod PlainNumber
pub mod PlainValues
pub mod Reaching
pub mod Rows
pub mod Writes
