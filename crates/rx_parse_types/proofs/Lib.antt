pub mod Rules
pub mod TypeSteps
pub mod PatternSteps
