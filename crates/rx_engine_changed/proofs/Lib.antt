pub mod Lists
pub mod Steps
pub mod Parts
pub mod Counts
pub mod Kept
pub mod Patterns
pub mod Walk
pub mod KeptPlaces
pub mod Rises
pub mod Copied
pub mod Rows
pub mod RoundRun
pub mod RoundEnd
pub mod Functions
pub mod Once
pub mod RoundFunctions
pub mod Pieces
pub mod CalledFunctions
pub mod OneCall
pub mod MovedRuns
pub mod Arguments
pub mod Spots
mod Inside
mod Staging
pub mod Standing
mod Handing
mod Matched
mod Whole
mod Handed
pub mod Deeds
pub mod GoingOn
mod PlannedDeeds
pub mod PlannedRuns
pub mod TextStands
pub mod CallFits
mod Asked
mod Occurring
pub mod RunAsked
pub mod Quiet
pub mod ToldLets
pub mod Declared
pub mod HandedOn
pub mod Few
pub mod NoneWaiting
