pub mod Changing
pub mod Shapes
pub mod Alone
