pub mod CallerAsked
pub mod ExitArms
pub mod AlsoMarked
pub mod Moving
pub mod FrontAlike
pub mod Calling
pub mod Ending
