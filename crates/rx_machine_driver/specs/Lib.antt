pub mod PlainSteps
pub mod Fitting
pub mod Running
pub mod Binding
