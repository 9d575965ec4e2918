pub mod Binders
pub mod Alike
pub mod Agreeing
pub mod Following
