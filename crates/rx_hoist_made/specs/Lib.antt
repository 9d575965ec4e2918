pub mod Lasts
pub mod Rows
pub mod PlainHanded
pub mod PlainParts
pub mod Noting
pub mod Counts
