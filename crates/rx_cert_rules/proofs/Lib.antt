pub mod Telling
pub mod Keeping
pub mod Numbering
pub mod Points
pub mod Scopes
pub mod Verdict
