pub mod Pushed
pub mod Making
