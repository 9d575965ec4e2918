pub mod Frames
pub mod Choosing
pub mod Stepping
pub mod Sizes
pub mod Laws
