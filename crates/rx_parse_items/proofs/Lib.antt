pub mod ItemSteps
