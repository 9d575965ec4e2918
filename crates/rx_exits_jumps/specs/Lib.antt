pub mod Seen
pub mod PlainSought
pub mod Broken
pub mod ExitsBy
