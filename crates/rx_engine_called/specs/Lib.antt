pub mod Planned
pub mod Found
pub mod Outside
pub mod Tells
pub mod Tied
pub mod WrittenOut
pub mod Ended
