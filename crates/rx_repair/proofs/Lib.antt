pub mod Asked
pub mod Observed
pub mod Imposed
pub mod OtherBounds
pub mod Deciding
pub mod Living
pub mod Existing
pub mod Accepting
pub mod Lists
pub mod Listing
pub mod Renamed
pub mod Callers
pub mod Parameters
pub mod Saying
pub mod Typings
pub mod RepairPrograms
pub mod Steps
pub mod Numbers
pub mod Extracting
pub mod Unbounded
pub mod Numbering
pub mod Outcomes
pub mod RepairAsking
pub mod Alike
pub mod Bounds
pub mod Once
pub mod Written
mod Types
mod RenamingPlaces
mod RenamingAsking
mod Verdicts
mod Having
mod Holding
mod Annotated
mod RenamingLetsMet
mod RenamingNoting
mod LetTypes
mod Typed
mod Filling
mod Building
pub mod Sites
pub mod Entries
pub mod Places
pub mod Settling
pub mod Asking
pub mod Pieces
pub mod Patterns
pub mod Acting
pub mod Erasing
pub mod Making
pub mod Writing
pub mod Letting
pub mod LetsMet
pub mod Noting
pub mod Bound
pub mod Lets
pub mod Programs
