pub mod TypedRules
pub mod Items
mod Numbering
pub mod Rules
pub mod Loops
pub mod Parts
