pub mod PartsOf
pub mod Standing
