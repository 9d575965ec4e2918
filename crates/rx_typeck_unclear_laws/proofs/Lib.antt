pub mod Telling
mod Asks
mod Others
mod Apart
pub mod Finding
