mod Meaning
mod Outs
mod MeantBlocks
mod Runs
pub mod Scopes
pub mod NamedPatterns
pub mod NamedExpressions
pub mod NamedFunctions
pub mod TypedNames
pub mod MeantPrograms
pub mod Plans
pub mod Steps
pub mod Loops
pub mod Patterns
pub mod Counted
pub mod Expressions
pub mod Functions
pub mod Places
pub mod Blocks
pub mod Rising
pub mod Programs
