pub mod Asking
pub mod Around
mod Rounds
pub mod Returned
pub mod Tails
mod Sited
mod Initialised
pub mod Themselves
mod Integers
mod Naming
mod Alone
mod Adding
pub mod Entering
mod Calling
mod Fitted
