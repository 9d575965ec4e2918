mod Roles
mod Renamed
mod Steps
mod Reading
mod Signature
pub mod Filling
mod Turning
mod Declared
mod Places
mod MergedNumbers
mod Counts
mod ElidedNumbers
mod Fewer
mod MergedApart
mod ElidedApart
mod ElidedFewer
pub mod SameTypes
mod ByName
mod LetTypes
mod Functions
pub mod ShortPrograms
pub mod ShortTyped
pub mod Programs
mod Bounds
mod BoundsUnder
mod MergedEqual
mod Examples
