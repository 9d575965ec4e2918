mod RisingLets
mod RoundRuns
mod NamedTypes
mod DistinctNames
mod Apart
mod TextLifetimes
mod PinnedLifetimes
mod RunLifetimes
mod ExitNames
pub mod LoopNumbers
pub mod TypedLoops
mod LoopsRound
mod PinnedBlocks
mod PinnedClaims
mod OutWords
mod NamedRuns
