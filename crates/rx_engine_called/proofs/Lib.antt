mod Alone
mod Words
mod Received
mod Found
mod Telling
mod Unnamed
mod Called
mod Weaker
mod Behind
mod Tied
pub mod WrittenOut
mod Together
mod Ended
pub mod NotLive
