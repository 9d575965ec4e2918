pub mod TypedActs
pub mod TypedFunctions
pub mod MutableActs
pub mod ValueTypes
pub mod TypedStates
pub mod Shapes
pub mod NoReferences
