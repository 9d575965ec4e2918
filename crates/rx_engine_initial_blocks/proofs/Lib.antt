pub mod Marks
pub mod Cutting
pub mod RunBlocks
pub mod NewCalls
