pub mod Parts
pub mod ItemParts
