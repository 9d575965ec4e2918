pub mod Starting
pub mod Finding
pub mod Noting
pub mod Leading
pub mod Gathered
pub mod Answering
pub mod Typed
mod Examples
