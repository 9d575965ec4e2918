pub mod Deciding
pub mod Table
pub mod One
pub mod Planned
pub mod Computing
pub mod Entering
pub mod Examples
