pub mod Functions
pub mod TypedRuns
