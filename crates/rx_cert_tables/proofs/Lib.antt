pub mod Tests
pub mod Filled
pub mod Runs
pub mod Placed
pub mod Same
