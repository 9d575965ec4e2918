pub mod Sights
pub mod Nodes
pub mod Arguments
pub mod Taking
pub mod Handing
pub mod Handed
pub mod Entering
pub mod Giving
pub mod Standing
pub mod Arms
pub mod Matching
pub mod Tails
pub mod StandingTails
pub mod Leaving
mod Examples
