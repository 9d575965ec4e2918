pub mod Items
pub mod PlainParts
