pub mod NodeOf
pub mod Parts
pub mod PlainParts
