pub mod Running
pub mod Items
pub mod Finding
pub mod Keeping
