mod Examples
mod Retyped
pub mod Bared
pub mod Firsts
pub mod Rules
pub mod Joining
pub mod Occurring
pub mod Choosing
