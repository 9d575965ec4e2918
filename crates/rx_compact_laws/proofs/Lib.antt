pub mod Merging
pub mod MergedSets
mod Numbering
mod Expressions
mod Functions
mod Unwritten
pub mod Resolving
mod ResolvingFunctions
pub mod Staying
pub mod Keeping
pub mod SameNames
pub mod Declaring
pub mod Lists
pub mod Spared
pub mod Noted
pub mod Elsewhere
pub mod ShortNames
