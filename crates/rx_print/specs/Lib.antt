pub mod ExpressionParts
pub mod ItemParts
