pub mod TypedBlocks
