pub mod AreShort
pub mod LetsUnder
pub mod Alike
