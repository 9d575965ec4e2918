pub mod Shapes
pub mod Keeping
pub mod RunBlock
pub mod Actions
pub mod Turns
pub mod Giving
