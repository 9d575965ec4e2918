pub mod Selected
pub mod Parts
pub mod RunOf
pub mod OneText
pub mod Search
pub mod Descent
