pub mod Nodes
pub mod TypedRun
