pub mod Steps
pub mod Unwinding
pub mod Calls
pub mod ChoosingLemmas
pub mod StepLemmas
