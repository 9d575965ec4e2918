pub mod First
pub mod Paths
pub mod Deeds
pub mod Outside
pub mod Uses
pub mod Modes
pub mod NotMut
pub mod Aliased
