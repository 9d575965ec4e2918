mod Within
mod Lets
pub mod Angles
pub mod Placed
