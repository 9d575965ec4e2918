pub mod Undrops
pub mod DropBlock
