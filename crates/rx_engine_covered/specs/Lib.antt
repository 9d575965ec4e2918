pub mod LikeChoices
pub mod Seen
pub mod Within
pub mod TakesAll
pub mod ExitsDeclared
pub mod Quiet
